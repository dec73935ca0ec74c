use Rattle.std.proofs.Common.{Some, None, length, refl, sym, ◌∙◌}
use Rattle.rtp_c.specs.ElementData.{IsAskedFor}
use Rattle.rtp_c.proofs.ElementDataLemmas.{IsAskedFor-found, HasNoData-own, HasNoData-kind, AreTooLongData-short, AreWrittenData-written}
use Rattle.rtp_c.proofs.StatusLemmas.{bad_field≢ok, none≢bad_field, short_buffer≢bad_field}
use Rattle.rtp_c.proofs.data.rtpw_data_of.Goals.{In_default-known, In-Some-known}
use Rattle.rtp_c.proofs.data.rtpw_data_of.Goals as goal

own_asked : (c : In_default-known) → IsAskedFor c.args.kind c.args.values.now None c.in-Some-of.given
own_asked c =
    IsAskedFor-found c.args.kind c.args.values.now None c.in-Some-of.given c.in-Some.ensures.named.0
    (sym c.in_default-known.is ∙ c.in-Some.ensures.named.1) c.in-Some-of.ensures.found

pub returns-in_default-known-clause-none : goal.returns-in_default-known-clause-none
returns-in_default-known-clause-none c _ = HasNoData-own c.args.kind c.args.values.now c.in-Some-of.given (own_asked (goal.at.returns-in_default-known-clause-none c).In_default-known)

pub returns-in_default-known-clause-bad_field : goal.returns-in_default-known-clause-bad_field
returns-in_default-known-clause-bad_field c =
    (λ is. absurd (none≢bad_field is), λ nothing. absurd (nothing None c.in-Some-of.given (own_asked (goal.at.returns-in_default-known-clause-bad_field c).In_default-known)))

kind_asked : (c : In-Some-known) → IsAskedFor c.args.kind c.args.values.now (Some c.in-Some-known.kind) c.in-Some-of.given
kind_asked c =
    IsAskedFor-found c.args.kind c.args.values.now (Some c.in-Some-known.kind) c.in-Some-of.given c.in-Some.ensures.named.0
    (sym c.in-Some-known.is ∙ c.in-Some.ensures.named.1) c.in-Some-of.ensures.found

pub returns-in_default-data_len-clause-none : goal.returns-in_default-data_len-clause-none
returns-in_default-data_len-clause-none c _ =
    HasNoData-kind c.args.kind c.args.values.now c.in-Some-known.kind c.in-Some-of.given (kind_asked (goal.at.returns-in_default-data_len-clause-none c).In-Some-known)
    (sym c.in_default-data_len.is ∙ c.data_len.ensures.length)

pub returns-in_default-data_len-clause-bad_field : goal.returns-in_default-data_len-clause-bad_field
returns-in_default-data_len-clause-bad_field c =
    (λ is. absurd (none≢bad_field is), λ nothing. absurd (nothing (Some c.in-Some-known.kind) c.in-Some-of.given (kind_asked (goal.at.returns-in_default-data_len-clause-bad_field c).In-Some-known)))

pub returns-then-buf-data_len-clause-short : goal.returns-then-buf-data_len-clause-short
returns-then-buf-data_len-clause-short c _ =
    AreTooLongData-short c.args.kind c.args.values.now c.in-Some-known.kind c.in-Some-of.given (kind_asked (goal.at.returns-then-buf-data_len-clause-short c).In-Some-known)
    c.in-Some-data_len.data_len (sym c.in-Some-data_len.is ∙ c.data_len.ensures.length) (length c.args.buf.now) c.if-buf-data_len.true

pub returns-then-buf-data_len-clause-bad_field : goal.returns-then-buf-data_len-clause-bad_field
returns-then-buf-data_len-clause-bad_field c =
    (λ is. absurd (short_buffer≢bad_field is), λ nothing. absurd (nothing (Some c.in-Some-known.kind) c.in-Some-of.given (kind_asked (goal.at.returns-then-buf-data_len-clause-bad_field c).In-Some-known)))

pub returns-clause-written : goal.returns-clause-written
returns-clause-written c _ =
    AreWrittenData-written c.args.kind c.args.values.now c.in-Some-known.kind c.in-Some-of.given (kind_asked (goal.at.returns-clause-written c).In-Some-known)
    c.in-Some-data_len.data_len (sym c.in-Some-data_len.is ∙ c.data_len.ensures.length) c.args.buf.now c.write_to.new.buf
    c.write_to.ensures.read_back c.write_to.ensures.written

pub returns-clause-bad_field : goal.returns-clause-bad_field
returns-clause-bad_field c =
    (λ is. absurd (bad_field≢ok (sym is)), λ nothing. absurd (nothing (Some c.in-Some-known.kind) c.in-Some-of.given (kind_asked (goal.at.returns-clause-bad_field c).In-Some-known)))

pub returns-in_default-of-clause-bad_field : goal.returns-in_default-of-clause-bad_field
returns-in_default-of-clause-bad_field c = (λ _ kind values asked. c.in_default-of.ensures.none values asked.are_given, λ _. refl)
