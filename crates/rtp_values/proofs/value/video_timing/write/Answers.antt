use Rattle.std.proofs.Common.{arith, ◌≡◌, ℕ, List, [], ◌∷◌, get_or, refl, sym, ◌∙◌}
use Rattle.rtp_values.specs.declared.value.video_timing.VideoTiming as timing
use Rattle.rtp_values.specs.Spelling.{bytes_of_number, timing_bytes}
use Rattle.rtp_values.proofs.ValueLemmas.{room_of, spelled-timing, AreData-timing, WritesData-put}
use Rattle.rtp_values.proofs.value.video_timing.write.Goals as goal

cells : (t : timing.VideoTiming) (start finish complete left : List ℕ) → start ≡ bytes_of_number 2 t.encode_start → finish ≡ bytes_of_number 2 t.encode_finish
    → complete ≡ bytes_of_number 2 t.packetize_complete → left ≡ bytes_of_number 2 t.last_left_pacer
    → (t.flags ∷ get_or start 0 0 ∷ get_or start 1 0 ∷ get_or finish 0 0 ∷ get_or finish 1 0 ∷ get_or complete 0 0 ∷ get_or complete 1 0
    ∷ get_or left 0 0 ∷ get_or left 1 0 ∷ 0 ∷ 0 ∷ 0 ∷ 0 ∷ []) ≡ timing_bytes t
cells t start finish complete left start-is finish-is complete-is left-is = rw (start-is, finish-is, complete-is, left-is) refl

pub put-requires : goal.put-requires
put-requires g c =
    let t = c.in_ok-timing.timing in
    let are = cells t c.u16_bytes-start.result c.u16_bytes-finish.result c.u16_bytes-complete.result c.u16_bytes-left.result
    c.u16_bytes-start.ensures.bytes c.u16_bytes-finish.ensures.bytes c.u16_bytes-complete.ensures.bytes c.u16_bytes-left.ensures.bytes in
    room_of (spelled-timing (g.V.GetValues.values c.args.ev.now) (sym c.video_timing.ensures ∙ c.in_ok-timing.was) are) (omega arith) c.args.buf.now c.requires.room

pub returns : goal.returns
returns g c =
    let t = c.in_ok-timing.timing in
    let are = cells t c.u16_bytes-start.result c.u16_bytes-finish.result c.u16_bytes-complete.result c.u16_bytes-left.result
    c.u16_bytes-start.ensures.bytes c.u16_bytes-finish.ensures.bytes c.u16_bytes-complete.ensures.bytes c.u16_bytes-left.ensures.bytes in
    WritesData-put (AreData-timing (g.V.GetValues.values c.args.ev.now) (sym c.video_timing.ensures ∙ c.in_ok-timing.was) are c.u16_bytes-start.ensures.back c.u16_bytes-finish.ensures.back c.u16_bytes-complete.ensures.back c.u16_bytes-left.ensures.back)
    c.put.ensures.end c.put.ensures.written
