use Rattle.rtp_c.proofs.Common.{◌≡◌, ◌<◌, ◌↔◌, ℕ, List, [], Bool, false, IsTrue, Option, Some, None, IfSome, IfNone, All, refl, sym, subst, arith, rules, false≢true, ExtensionsForm, Element, ChangesIds, CanRenumber, new_id, ids_in_bytes, CarriesExtensions, slice_index, RtpPacketMut, ChangesBlock, PacketParts, IsPacket, AreElementsOf, HasValues, parts_in, BecomesPacket, IsPacket-in}
use Rattle.rtp_c.proofs.StatusLemmas.{long_id≢ok}
use Rattle.rtp_c.proofs.ChangeLemmas.{parts-in, BecomesPacket-changed}
use Rattle.rtp_c.proofs.map.rtpw_renumber.Goals as goal

if_some_weaker : {X : Type 0} (block : Option X) (P Q : X → Type 0) → ((x : X) → P x → Q x) → IfSome block P → IfSome block Q
if_some_weaker None P Q weaker p = tt
if_some_weaker (Some x) P Q weaker p = weaker x p

if_none_weaker : {X : Type 0} (block : Option X) (P Q : Type 0) → (P → Q) → IfNone block P → IfNone block Q
if_none_weaker None P Q weaker p = weaker p
if_none_weaker (Some x) P Q weaker p = tt

-- where the ids of no elements can't be carried, there is a block
has_block : (block : Option (ExtensionsForm × List ℕ)) (Can : ExtensionsForm × List ℕ → List Element → Type 0) (done : Bool) (Q : Type 0)
    → ((elements : List Element) → AreElementsOf block elements → IsTrue done ↔ IfSome block (λ b. Can b elements)) → (IsTrue done → ⊥) → IfNone block Q
has_block None Can done Q answer not_done = absurd (not_done ((answer [] refl).1 tt))
has_block (Some b) Can done Q answer not_done = tt

-- of the parts and the new ids that the packet and the table have
answer_of : (elements : List Element) (done : Bool) (was parts : PacketParts) (table ids : List (Option ℕ)) → was ≡ parts → table ≡ ids
    → (AreElementsOf was.block elements → IsTrue done ↔ IfSome was.block (λ block. All (CanRenumber block.0 (new_id table)) elements))
    → AreElementsOf parts.block elements → IsTrue done ↔ IfSome parts.block (λ block. All (CanRenumber block.0 (new_id ids)) elements)
answer_of elements done was parts table ids same same_ids answer =
    subst (λ (q : PacketParts). AreElementsOf q.block elements → IsTrue done ↔ IfSome q.block (λ block. All (CanRenumber block.0 (new_id ids)) elements)) same
    (subst (λ (t : List (Option ℕ)). AreElementsOf was.block elements → IsTrue done ↔ IfSome was.block (λ block. All (CanRenumber block.0 (new_id t)) elements)) same_ids answer)

renumbered_from : (was : List ℕ) (parts : PacketParts) (old new : RtpPacketMut) (bytes : List ℕ) (table ids : List (Option ℕ)) → IsPacket was parts
    → old.datagram.now ≡ was → table ≡ ids → slice_index bytes 1 < 256 → new.datagram.now ≡ bytes
    → IfSome (parts_in old).block (λ _. ChangesBlock (λ form. ChangesIds form (new_id table)) (parts_in old) (parts_in new))
    → IfSome parts.block (λ _. BecomesPacket (λ form. ChangesIds form (new_id ids)) parts bytes)
renumbered_from was parts old new bytes table ids is same same_ids fits ends changes =
    let same_parts = parts-in was parts old is same in
    subst (λ (q : PacketParts). IfSome q.block (λ _. BecomesPacket (λ form. ChangesIds form (new_id ids)) parts bytes)) same_parts
    (subst (λ (t : List (Option ℕ)). IfSome (parts_in old).block (λ _. BecomesPacket (λ form. ChangesIds form (new_id t)) parts bytes)) same_ids
    (if_some_weaker (parts_in old).block (λ _. ChangesBlock (λ form. ChangesIds form (new_id table)) (parts_in old) (parts_in new)) (λ _. BecomesPacket (λ form. ChangesIds form (new_id table)) parts bytes)
    (λ _ change. BecomesPacket-changed (λ form. ChangesIds form (new_id table)) was parts old new bytes is same change fits ends) changes))

pub returns-then-renumber-clause-renumbered : goal.returns-then-renumber-clause-renumbered
returns-then-renumber-clause-renumbered c parts is ok =
    renumbered_from c.args.datagram.now parts c.new-packet.result c.renumber.new.self _ c.from_ids.result (ids_in_bytes c.args.ids.now.id) is
    c.new-packet.ensures.same_bytes c.from_ids.ensures (omega (arith, c.type_inv.datagram 1)) (search rules) c.if-renumber.ensures.renumbered

pub returns-then-renumber-clause-without_block : goal.returns-then-renumber-clause-without_block
returns-then-renumber-clause-without_block c parts is =
    let packet = c.new-packet.result in
    let same = parts-in c.args.datagram.now parts packet is c.new-packet.ensures.same_bytes in
    if_none_weaker parts.block _ _ (λ bytes. (refl, search (rules, bytes)))
    (subst (λ (q : PacketParts). IfNone q.block (c.renumber.new.self.datagram.now ≡ packet.datagram.now)) same c.if-renumber.ensures.without_block)

pub returns-then-renumber-clause-answer : goal.returns-then-renumber-clause-answer
returns-then-renumber-clause-answer c parts elements is are =
    let packet = c.new-packet.result in
    let same = parts-in c.args.datagram.now parts packet is c.new-packet.ensures.same_bytes in
    let answer = answer_of elements _ (parts_in packet) parts c.from_ids.result (ids_in_bytes c.args.ids.now.id) same c.from_ids.ensures (c.if-renumber.ensures.answer elements) are in
    (λ _. answer.0 refl, λ _. refl)

pub returns-then-renumber-clause-values : goal.returns-then-renumber-clause-values
returns-then-renumber-clause-values c parts from to values is are has ok =
    let packet = c.new-packet.result in
    let same = parts-in c.args.datagram.now parts packet is c.new-packet.ensures.same_bytes in
    record {
      parts = parts_in c.renumber.new.self;
      is_packet = IsPacket-in c.renumber.new.self _ (omega (arith, c.type_inv.datagram 1)) (search rules);
      has_values = c.if-renumber.ensures.values from to values (subst (CarriesExtensions from to) (sym c.from_ids.ensures) are)
          (subst (λ (q : PacketParts). HasValues from q.block values) (sym same) has);
    }

pub returns-else-renumber-clause-without_block : goal.returns-else-renumber-clause-without_block
returns-else-renumber-clause-without_block c parts is =
    let packet = c.new-packet.result in
    let same = parts-in c.args.datagram.now parts packet is c.new-packet.ensures.same_bytes in
    has_block parts.block (λ block elements. All (CanRenumber block.0 (new_id c.from_ids.result)) elements) false _
    (λ elements are. answer_of elements false (parts_in packet) parts c.from_ids.result c.from_ids.result same refl (c.if-renumber.ensures.answer elements) are) false≢true

pub returns-else-renumber-clause-answer : goal.returns-else-renumber-clause-answer
returns-else-renumber-clause-answer c parts elements is are =
    let packet = c.new-packet.result in
    let same = parts-in c.args.datagram.now parts packet is c.new-packet.ensures.same_bytes in
    let answer = answer_of elements _ (parts_in packet) parts c.from_ids.result (ids_in_bytes c.args.ids.now.id) same c.from_ids.ensures (c.if-renumber.ensures.answer elements) are in
    (λ wrong. absurd (long_id≢ok wrong), λ has. absurd (false≢true (answer.1 has)))

pub returns-in-Err-clause-without_block : goal.returns-in-Err-clause-without_block
returns-in-Err-clause-without_block c parts is = absurd (c.in-Err.ensures.only parts is)

pub returns-in-Err-clause-answer : goal.returns-in-Err-clause-answer
returns-in-Err-clause-answer c parts elements is are = absurd (c.in-Err.ensures.only parts is)

pub returns-in-Err-clause-otherwise : goal.returns-in-Err-clause-otherwise
returns-in-Err-clause-otherwise c parts is not_ok = absurd (c.in-Err.ensures.only parts is)
