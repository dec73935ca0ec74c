use Rattle.rtp_wire.proofs.Common.{arith, sym, ◌∙◌, ◌≡◌, subst, None, [], List, ℕ, Option, ExtensionsForm, OneByte, AreElements, AreElements-found, AreElementsOf, parts_of}
use Rattle.rtp_ext.proofs.ElementLemmas.{elements_left-none}
use Rattle.rtp_wire.proofs.packet.rtp_packet.RtpPacket.elements.Goals as goal

-- there is no block, and the iterator has no element
nothing : (c : goal.After-new-in-None) → (None ≡ (parts_of c.args.self.now).block) × ([] ≡ c.new-in-None.result)
nothing c = (
  (rw c.in-None.is at c.block.ensures.parts),
  c.new-in-None.ensures.only [] (subst (AreElements OneByte []) (elements_left-none OneByte) (AreElements-found OneByte [] (λ i. omega arith))),
)

pub returns-in-None-clause-found : goal.returns-in-None-clause-found
returns-in-None-clause-found c =
    subst (λ (block : Option (ExtensionsForm × List ℕ)). AreElementsOf block c.new-in-None.result) (nothing c).0 (sym (nothing c).1)

pub returns-in-None-clause-only : goal.returns-in-None-clause-only
returns-in-None-clause-only c elements are =
    subst (λ (block : Option (ExtensionsForm × List ℕ)). AreElementsOf block elements) (sym (nothing c).0) are ∙ (nothing c).1
