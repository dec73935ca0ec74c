use Rattle.std.proofs.Common.{rules, ◌≡◌, ◌≤◌, ◌∙◌, inl, ℕ, List, ◌++◌, length, take, drop, Option, Result, Ok, Err, IsOk, IsErr, ◌↔◌, refl, sym, ap, subst, arith, take_at}
use Rattle.std.proofs.lemmas.Result.{err_from_is_err_and}
use Rattle.rtp_ext.specs.NewIds.{new_id}
use Rattle.rtp_ext.specs.declared.form.ExtensionsForm.{ExtensionsForm}
use Rattle.rtp_wire.specs.PartsAt.{HasLayout}
use Rattle.rtp_wire.specs.PartsOf.{parts_of}
use Rattle.rtp_wire.specs.declared.packet.not_put.NotPut.TheVariants.{NoRoom}
use Rattle.rtp_wire.specs.NotAHeader.{IsNoPacket}
use Rattle.rtp_wire.specs.PutIntoPacket.{form_of_block, Compacts}
use Rattle.rtp_wire.proofs.CompactLemmas.{Compacts-front}
use Rattle.rtp_wire.proofs.NotAPacketLemmas.{no_packet-refused}
use Rattle.rtp_route.specs.NotPutAmong.{IsNotPutAmong}
use Rattle.rtp_route.specs.NotRouted.{KeepsFromNewIds}
use Rattle.rtp_route.specs.Calls.{header_in}
use Rattle.rtp_route.proofs.ByCallsLemmas.{header_in-length, set-in_front, set-and-renumbered, kept-set, kept-put, none-kept_set}
use Rattle.rtp_route.proofs.NotPutLemmas.{ArePut-packet}
use Rattle.rtp_route.proofs.StartLemmas.{started}
use Rattle.rtp_route.proofs.by_calls.make_header.Goals as goal

pub returns-then-buf-needed-clause-cause : goal.returns-then-buf-needed-clause-cause
returns-then-buf-needed-clause-cause g c =
    let long = header_in-length c.args.packet.now in
    inl (ap NoRoom (c.header_len-needed.ensures ∙ sym long), omega (arith, c.if-buf-needed.true, c.header_len-needed.ensures, long))

pub renumber_in_form-requires-clause-held : goal.renumber_in_form-requires-clause-held
renumber_in_form-requires-clause-held g c =
    let needed = c.header_len-needed.result in
    let long : length c.copy_header.new.buf ≡ needed = search rules in
    subst (λ (b : List ℕ). HasLayout b needed c.form.result) (sym (take_at c.copy_header.new.buf _ needed long))
    (subst (λ (f : Option ExtensionsForm). HasLayout c.copy_header.new.buf needed f) (sym c.form.ensures)
    (subst (λ (n : ℕ). HasLayout c.copy_header.new.buf n (form_of_block (parts_of c.args.packet.now).block)) long c.copy_header.ensures.held))

pub returns-in_err-start-clause-cause : goal.returns-in_err-start-clause-cause
returns-in_err-start-clause-cause g c =
    let packet = c.args.packet.now in
    let fields = c.args.fields.now in
    let ids = new_id c.args.group.now.ids.now in
    let news = g.L.ElementList.elements c.args.group.now.elements in
    let allowed = c.args.group.now.allowed in
    let buf = c.args.buf.now in
    let needed = c.header_len-needed.result in
    let set : List ℕ = take needed (c.copy_header.new.buf ++ drop needed buf) in
    let is_set = set-in_front packet fields c.copy_header.new.buf buf needed c.header_len-needed.ensures c.if-buf-needed.false (search rules) c.copy_header.ensures.set c.copy_header.ensures.fixed in
    let room : length (c.copy_header.new.buf ++ drop needed buf) ≡ length buf = search rules in
    let cause = c.in_err-start.field-0.0 in
    let p = err_from_is_err_and c.from_residual.result c.from_residual.ensures.1 in
    rw (p.1, p.2) (kept-set packet fields ids news allowed (length buf) set is_set cause (subst (λ (k : ℕ). KeepsFromNewIds set ids allowed k cause) room c.in_err-start.ensures.cause))

pub returns-in_err-len-clause-cause : goal.returns-in_err-len-clause-cause
returns-in_err-len-clause-cause g c =
    let packet = c.args.packet.now in
    let fields = c.args.fields.now in
    let ids = new_id c.args.group.now.ids.now in
    let news = g.L.ElementList.elements c.args.group.now.elements in
    let allowed = c.args.group.now.allowed in
    let buf = c.args.buf.now in
    let needed = c.header_len-needed.result in
    let set : List ℕ = take needed (c.copy_header.new.buf ++ drop needed buf) in
    let is_set = set-in_front packet fields c.copy_header.new.buf buf needed c.header_len-needed.ensures c.if-buf-needed.false (search rules) c.copy_header.ensures.set c.copy_header.ensures.fixed in
    let now : List ℕ = take c.in_ok-start.start c.renumber_in_form.new.buf in
    let start = set-and-renumbered packet fields ids news allowed (length buf) set is_set now c.in_ok-start.ensures.renumbered in
    let room : length c.renumber_in_form.new.buf ≡ length buf = search rules in
    let cause = c.in_err-len.field-0.0 in
    let p = err_from_is_err_and c.from_residual-in_err-len.result c.from_residual-in_err-len.ensures.1 in
    rw (p.1, p.2) (kept-put packet fields ids news allowed (length buf) set is_set now start cause (subst (λ (k : ℕ). IsNotPutAmong now news allowed k cause) room c.in_err-len.ensures.cause))

ok-unless : {A E : Type 0} (result : Result A E) (Q : Type 0) → IsErr result ↔ Q → (Q → ⊥) → IsOk result
ok-unless (Ok value) Q refused none = refl
ok-unless (Err cause) Q refused none = absurd (none (refused.0 refl))

pub unwrap-requires : goal.unwrap-requires
unwrap-requires g c =
    let packet = c.args.packet.now in
    let fields = c.args.fields.now in
    let ids = new_id c.args.group.now.ids.now in
    let news = g.L.ElementList.elements c.args.group.now.elements in
    let allowed = c.args.group.now.allowed in
    let buf = c.args.buf.now in
    let needed = c.header_len-needed.result in
    let set : List ℕ = take needed (c.copy_header.new.buf ++ drop needed buf) in
    let is_set = set-in_front packet fields c.copy_header.new.buf buf needed c.header_len-needed.ensures c.if-buf-needed.false (search rules) c.copy_header.ensures.set c.copy_header.ensures.fixed in
    let now : List ℕ = take c.in_ok-start.start c.renumber_in_form.new.buf in
    let start = set-and-renumbered packet fields ids news allowed (length buf) set is_set now c.in_ok-start.ensures.renumbered in
    let put : List ℕ = take c.in_ok-len.len c.put_each.new.buf in
    let packet_now = ArePut-packet news allowed now put _ (started (header_in packet) fields ids allowed now start).is_packet c.in_ok-len.ensures.put in
    ok-unless c.compact_copy.result _ c.compact_copy.ensures.refused (λ (none : IsNoPacket put). no_packet-refused _ packet_now.0 none packet_now.1)

pub returns-clause-made : goal.returns-clause-made
returns-clause-made g c =
    let packet = c.args.packet.now in
    let fields = c.args.fields.now in
    let ids = new_id c.args.group.now.ids.now in
    let news = g.L.ElementList.elements c.args.group.now.elements in
    let allowed = c.args.group.now.allowed in
    let buf = c.args.buf.now in
    let needed = c.header_len-needed.result in
    let set : List ℕ = take needed (c.copy_header.new.buf ++ drop needed buf) in
    let is_set = set-in_front packet fields c.copy_header.new.buf buf needed c.header_len-needed.ensures c.if-buf-needed.false (search rules) c.copy_header.ensures.set c.copy_header.ensures.fixed in
    let now : List ℕ = take c.in_ok-start.start c.renumber_in_form.new.buf in
    let start = set-and-renumbered packet fields ids news allowed (length buf) set is_set now c.in_ok-start.ensures.renumbered in
    let put : List ℕ = take c.in_ok-len.len c.put_each.new.buf in
    let is : Compacts put c.compact_copy.new.datagram c.unwrap.result = rw c.unwrap.ensures at c.compact_copy.ensures.compacted in
    let fits : c.unwrap.result ≤ length put = rw c.unwrap.ensures at c.compact_copy.ensures.within in
    record {
      start_bytes = now;
      start = start;
      put_bytes = put;
      are_put = c.in_ok-len.ensures.put;
      compacted = Compacts-front _ c.compact_copy.new.datagram _ c.unwrap.result (omega (arith, fits, c.compact_copy.auto.datagram)) is;
    }

pub returns-clause-none_refused : goal.returns-clause-none_refused
returns-clause-none_refused g c =
    let packet = c.args.packet.now in
    let fields = c.args.fields.now in
    let ids = new_id c.args.group.now.ids.now in
    let news = g.L.ElementList.elements c.args.group.now.elements in
    let allowed = c.args.group.now.allowed in
    let buf = c.args.buf.now in
    let needed = c.header_len-needed.result in
    let set : List ℕ = take needed (c.copy_header.new.buf ++ drop needed buf) in
    let is_set = set-in_front packet fields c.copy_header.new.buf buf needed c.header_len-needed.ensures c.if-buf-needed.false (search rules) c.copy_header.ensures.set c.copy_header.ensures.fixed in
    let now : List ℕ = take c.in_ok-start.start c.renumber_in_form.new.buf in
    let start = set-and-renumbered packet fields ids news allowed (length buf) set is_set now c.in_ok-start.ensures.renumbered in
    let room : length (c.copy_header.new.buf ++ drop needed buf) ≡ length buf = search rules in
    let room_then : length c.renumber_in_form.new.buf ≡ length buf = search rules in
    none-kept_set packet fields ids news allowed (length buf) set is_set now start
    (λ cause kept. c.in_ok-start.ensures.none_refused cause (subst (λ (k : ℕ). KeepsFromNewIds set ids allowed k cause) (sym room) kept))
    (λ other cause same is. c.in_ok-len.ensures.none_refused other cause same (subst (λ (k : ℕ). IsNotPutAmong other news allowed k cause) (sym room_then) is))
