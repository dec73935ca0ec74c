use Rattle.rtp_c.proofs.Common.{◌≡◌, ℕ, List, Option, Some, None, Bor, IfSome, option_map, ExtensionsForm, parts_of}
use Rattle.rtp_c.proofs.packet.put_block.Goals as goal

-- the block is that of the form and the body that are there
block_of : (block : Option (ExtensionsForm × List ℕ)) (form : ExtensionsForm) (body : Bor (List ℕ)) → Some form ≡ option_map (λ b. b.0) block
    → IfSome block (λ b. option_map (λ (found : Bor (List ℕ)). found.now) (Some body) ≡ Some b.1) → Some (form, body.now) ≡ block
block_of None form body form-is body-is = cc
block_of (Some (known, bytes)) form body form-is body-is = cc

pub returns-clause-block : goal.returns-clause-block
returns-clause-block c = block_of (parts_of c.args.packet.now).block c.in-Some-form.form c.in-Some.body c.in-Some-form.ensures c.in-Some.ensures.block
