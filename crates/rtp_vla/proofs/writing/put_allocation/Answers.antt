use Rattle.rtp_vla.proofs.Common.{rules, ◌≡◌, ◌≤◌, ◌<◌, ◌++◌, ◌∷◌, [], ◌∙◌, ap, sym, subst, arith, length, length-map, map, drop, List, ℕ, Allocation, written_of, packed_bytes, overwritten-front}
use Rattle.rtp_vla.proofs.AllocationWriting.{written-none, written-some}
use Rattle.rtp_vla.proofs.writing.put_allocation.Goals as goal
use Rattle.rtp_vla.proofs.writing.put_allocation.Goals.{Then-is_empty, Else-is_empty}

nothing : (g : _) (c : Then-is_empty g) → written_of c.args.v.now ≡ 0 ∷ []
nothing g c =
    let none : length c.v.inside.streams.now ≡ 0 = search rules in
    written-none c.args.v.now (omega (arith, length-map c.v.inside.streams.now g.S.Layered.stream, none, ap (λ (a : Allocation). length a.simulcast_streams) c.v.view_is))

pub put-requires : goal.put-requires
put-requires g c = omega (arith, c.requires.room, ap length (nothing g (goal.at.put-requires g c).Then-is_empty))

pub returns-then-is_empty-clause-written : goal.returns-then-is_empty-clause-written
returns-then-is_empty-clause-written g c =
    let w = nothing g (goal.at.returns-then-is_empty-clause-written g c).Then-is_empty in
    c.put.ensures.written ∙ overwritten-front c.args.buf.now (0 ∷ []) ∙ (λ i. sym w i ++ drop (sym c.put.ensures.end i) c.args.buf.now)

pub returns-then-is_empty-clause-length : goal.returns-then-is_empty-clause-length
returns-then-is_empty-clause-length g c = c.put.ensures.end ∙ sym (ap length (nothing g (goal.at.returns-then-is_empty-clause-length g c).Then-is_empty))

packed : (g : _) (c : Else-is_empty g) → packed_bytes c.v.inside.index (map g.S.Layered.stream c.v.inside.streams.now) ≡ written_of c.args.v.now
packed g c =
    let any : 0 < length c.v.inside.streams.now = search rules in
    let some : 0 < length c.args.v.now.simulcast_streams =
    omega (arith, length-map c.v.inside.streams.now g.S.Layered.stream, any, ap (λ (a : Allocation). length a.simulcast_streams) c.v.view_is) in
    ap (λ (a : Allocation). packed_bytes a.current_simulcast_stream_index a.simulcast_streams) c.v.view_is
    ∙ sym (written-some c.args.v.now some)

pub put_streams-requires-clause-room : goal.put_streams-requires-clause-room
put_streams-requires-clause-room g c = subst (λ (bs : List ℕ). length bs ≤ length c.args.buf.now) (sym (packed g (goal.at.put_streams-requires-clause-room g c).Else-is_empty)) c.requires.room

pub returns-clause-written : goal.returns-clause-written
returns-clause-written g c =
    let w = packed g (goal.at.returns-clause-written g c).Else-is_empty in
    c.put_streams.ensures.written ∙ overwritten-front c.args.buf.now (packed_bytes c.v.inside.index (map g.S.Layered.stream c.v.inside.streams.now))
    ∙ (λ i. w i ++ drop (sym c.put_streams.ensures.end i) c.args.buf.now)

pub returns-clause-length : goal.returns-clause-length
returns-clause-length g c = c.put_streams.ensures.end ∙ ap length (packed g (goal.at.returns-clause-length g c).Else-is_empty)

pub put_streams-requires-clause-len : goal.put_streams-requires-clause-len
put_streams-requires-clause-len g c = c.requires.measured.len_is ∙ sym (ap length (packed g (goal.at.put_streams-requires-clause-len g c).Else-is_empty))
