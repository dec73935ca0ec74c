use Rattle.rtp_ext.proofs.Common.{arith, sym, ◌∙◌, extension_of_kind, spelled_data}
use Rattle.rtp_ext.proofs.WrittenBlockLemmas.{length-header_bytes, length-element}
use Rattle.rtp_ext.proofs.block_elements.with_element.Goals as goal

pub overflow_add-result : goal.overflow_add-result
overflow_add-result g c = omega (arith, c.in-Some.ensures.few, c.element_header_len.ensures 0 0, length-header_bytes c.args.form 0 0)

pub overflow_add-result-in-Some : goal.overflow_add-result-in-Some
overflow_add-result-in-Some g c = omega (arith, c.requires.few, c.in-Some.ensures.few, c.element_header_len.ensures 0 0, length-header_bytes c.args.form 0 0)

pub returns-in-Some-clause-length : goal.returns-in-Some-clause-length
returns-in-Some-clause-length g c = λ id.
    omega (
      arith,
      length-element c.args.form id c.element_header_len.result c.in-Some.data (spelled_data (extension_of_kind c.args.kind) (g.V.ElementValues.values c.args.ev.now))
          (sym c.in-Some.is ∙ c.data_len.ensures.length) (c.element_header_len.ensures id c.in-Some.data),
    )

pub returns-in-Some-clause-few : goal.returns-in-Some-clause-few
returns-in-Some-clause-few g c = omega (arith, c.in-Some.ensures.few, c.element_header_len.ensures 0 0, length-header_bytes c.args.form 0 0)
