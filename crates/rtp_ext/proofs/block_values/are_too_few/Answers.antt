use Rattle.std.proofs.Common.{ℕ, ◌∙◌, ap, inr, not, nat_eq, rules, sym}
use Rattle.std.proofs.lemmas.Bool.{false≢true}
use Rattle.rtp_ext.proofs.ApartLemmas.{too_few}
use Rattle.rtp_ext.proofs.block_values.are_too_few.Goals as goal

pub returns-in-1 : goal.returns-in-1
returns-in-1 c other a means =
    too_few c.args.bytes.now a (inr (search rules, λ zero. false≢true (ap (λ (n : ℕ). not (nat_eq n 0)) (sym zero) ∙ other))) means
