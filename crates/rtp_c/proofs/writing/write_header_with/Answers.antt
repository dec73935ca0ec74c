use Rattle.rtp_c.proofs.Common.{rules, refl, length, true≢false, elements_in}
use Rattle.rtp_wire.specs.WrittenWith.{no_block}
use Rattle.rtp_c.proofs.WrittenHeaderLemmas.{AreNamed, CanBeWrittenWith-named, IsWrittenWith-named, IsTooLongWith-named, IsTooLongWith-not}
use Rattle.rtp_c.proofs.writing.write_header_with.Goals.{In-Some-new}
use Rattle.rtp_c.proofs.writing.write_header_with.Goals as goal

-- what is given
given : (c : In-Some-new) → AreNamed c.args.header.now c.args.bytes.now c.args.elements.now (elements_in c.in-Some-new.named.bytes.now c.in-Some-new.named.views.now) c.in-Some.fields
given c = record { fields = c.in-Some.ensures.found; within = c.in-Some-new.ensures.within; named = c.in-Some-new.ensures.elements }

pub returns-in-Some-write_with-clause-written : goal.returns-in-Some-write_with-clause-written
returns-in-Some-write_with-clause-written c is_ok =
    IsWrittenWith-named c.args.allowed c.args.header.now c.args.bytes.now c.args.elements.now _ c.in-Some.fields (given (goal.at.returns-in-Some-write_with-clause-written c).In-Some-new)
    c.args.buf.now c.write_with.new.buf c.in-Some-write_with.written
    (λ none. true≢false (c.in-Some-write_with.ensures.refused.1 (no_block none)))
    c.in-Some-write_with.ensures.length c.in-Some-write_with.ensures.written c.in-Some-write_with.ensures.read_back

pub returns-in-Some-write_with-clause-short : goal.returns-in-Some-write_with-clause-short
returns-in-Some-write_with-clause-short c = (
  λ is. search rules,
  λ too. absurd (IsTooLongWith-not c.args.allowed c.args.header.now c.args.bytes.now c.args.elements.now _ c.in-Some.fields (given (goal.at.returns-in-Some-write_with-clause-short c).In-Some-new)
      (length c.args.buf.now) (λ cannot. true≢false (c.in-Some-write_with.ensures.refused.1 cannot)) too),
)

pub returns-in-Some-write_with-clause-bad_field : goal.returns-in-Some-write_with-clause-bad_field
returns-in-Some-write_with-clause-bad_field c = (
  λ is. search rules,
  λ none. absurd (none c.in-Some.fields
      (CanBeWrittenWith-named c.args.allowed c.args.header.now c.args.bytes.now c.args.elements.now _ c.in-Some.fields (given (goal.at.returns-in-Some-write_with-clause-bad_field c).In-Some-new)
      (λ none. true≢false (c.in-Some-write_with.ensures.refused.1 (no_block none))))),
)

pub returns-in-Some-for_elements-clause-short : goal.returns-in-Some-for_elements-clause-short
returns-in-Some-for_elements-clause-short c = (
  λ _. IsTooLongWith-named c.args.allowed c.args.header.now c.args.bytes.now c.args.elements.now _ c.in-Some.fields (given (goal.at.returns-in-Some-for_elements-clause-short c).In-Some-new)
      (length c.args.buf.now) (λ none. true≢false (c.in-Some-for_elements.ensures.refused.1 none)) (c.in_default-write_with.ensures.refused.0 refl),
  λ _. refl,
)

pub returns-in-Some-for_elements-clause-bad_field : goal.returns-in-Some-for_elements-clause-bad_field
returns-in-Some-for_elements-clause-bad_field c = (
  λ is. search rules,
  λ none. absurd (none c.in-Some.fields
      (CanBeWrittenWith-named c.args.allowed c.args.header.now c.args.bytes.now c.args.elements.now _ c.in-Some.fields (given (goal.at.returns-in-Some-for_elements-clause-bad_field c).In-Some-new)
      (λ none. true≢false (c.in-Some-for_elements.ensures.refused.1 none)))),
)

pub returns-in_default-clause-short : goal.returns-in_default-clause-short
returns-in_default-clause-short c = (λ is. search rules, λ too. absurd (c.in_default.ensures.none too.header too.is_given.fields))

pub returns-in_default-clause-bad_field : goal.returns-in_default-clause-bad_field
returns-in_default-clause-bad_field c = (λ _ header can. c.in_default.ensures.none header can.fields, λ _. refl)
