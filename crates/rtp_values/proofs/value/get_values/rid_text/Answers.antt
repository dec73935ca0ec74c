use Rattle.std.proofs.Common.{List, ℕ, sym, ◌∙◌, subst}
use Rattle.rtp_base.specs.Id.{IsIdOf}
use Rattle.rtp_values.proofs.value.get_values.rid_text.Goals as goal

pub returns : goal.returns
returns c = record {
  text_is = c.as_bytes.ensures.value ∙ c.as_str.ensures.text;
  same = subst (λ (xs : List ℕ). IsIdOf 8 xs c.args.rid.now) (sym c.as_bytes.ensures.value) c.as_str.ensures.back;
  utf8 = c.as_bytes.ensures.utf8;
}
