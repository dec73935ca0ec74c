use Rattle.rtp_listing.proofs.Common.{◌≡◌, ◌+◌, [], ◌++◌, take, Option, refl, sym, ap, ◌∙◌, arith, append-nil, nil_from_length, eqb-true, Appends-nil, Appends-kept, RtpHeader, NoMemory, Io, Prints, packet_lines, IsPartialListing, read_header, option_copied}
use Rattle.rtp_listing.proofs.PrintLemmas.{Prints-all, Prints-written, Prints-cut, Prints-nothing, handed_on, shown_is}
use Rattle.rtp_listing.proofs.PrintingLemmas.{Printing-none, IsOk-next, Printing-more, Printing-written, all_done}
use Rattle.rtp_listing.proofs.printing.print_all.Goals as goal

pub returns-in_err-buffer-clause-err : goal.returns-in_err-buffer-clause-err
returns-in_err-buffer-clause-err g c datagrams hex =
    let old = g.W.Write.contents c.args.output.now in
    handed_on c.from_residual.result NoMemory NoMemory (λ end. Prints old old (IsPartialListing c.args.input.now.exts datagrams end)) c.from_residual.ensures.1 refl
    (Prints-nothing c.args.input.now.exts datagrams old)

pub loop-rest-init : goal.loop-rest-init
loop-rest-init g c = record {
  room = omega (arith, c.as_mut_slice-text.ensures.len, c.in_ok-buffer.ensures.len);
  short = omega arith;
  printing = Printing-none _ _ _ _ c.new-receivers.result (Appends-nil (g.W.Write.contents c.args.output.now)) refl c.new-receivers.ensures;
}

pub judged-read-requires : goal.judged-read-requires
judged-read-requires g c = IsOk-next _ _ _ _ c.first_line.result.1.now _ _ _ _ _ c.loop-rest.invariant.printing c.requires c.first_line.ensures.first

pub returns-in_err-write_text-clause-err : goal.returns-in_err-write_text-clause-err
returns-in_err-write_text-clause-err g c datagrams hex =
    handed_on c.from_residual-in_err-write_text.result c.in_err-write_text.field-0.0 Io _ c.from_residual-in_err-write_text.ensures.1 c.in_err-write_text.ensures.err
    (Prints-cut _ _ _ _ _ _ _ _ _ (c.loop-rest.invariant.printing.printed datagrams hex) refl c.in_err-write_text.ensures.beginning)

pub returns-in_default-clause-err : goal.returns-in_default-clause-err
returns-in_default-clause-err g c datagrams hex =
    Prints-written _ _ _ _ _ _ _ _ _ (c.loop-rest.invariant.printing.printed datagrams hex) refl c.in_ok-write_text.ensures.ok

pub returns-in_err-write_text-2-clause-err : goal.returns-in_err-write_text-2-clause-err
returns-in_err-write_text-2-clause-err g c datagrams hex =
    let shown = ap (λ (h : Option RtpHeader). take c.loop-rest.len c.loop-rest.text ++ packet_lines (c.loop-rest.packet + 1) h c.in-Ok.verdict) (ap option_copied c.then_some.ensures ∙ shown_is c.in-Ok.found _) in
    let more =
    Printing-more _ _ _ _ c.first_line.result.1.now _ _ _ _ _ _ _ (read_header c.in-Ok.found c.judged-read.new.header) c.in-Ok.verdict c.loop-rest.invariant.printing c.first_line.ensures.first c.first_line.ensures.shorter
    c.in-Ok.ensures.header c.in-Ok.ensures.verdict c.in-Ok.ensures.after (c.put_lines-len.ensures.written ∙ shown) in
    handed_on c.from_residual-in_err-write_text-2.result c.in_err-write_text-2.field-0.0 Io _ c.from_residual-in_err-write_text-2.ensures.1 c.in_err-write_text-2.ensures.err
    (Prints-cut _ _ _ _ _ _ _ _ _ (more.printed datagrams hex) refl c.in_err-write_text-2.ensures.beginning)

pub returns-in_err-write_text-3-clause-err : goal.returns-in_err-write_text-3-clause-err
returns-in_err-write_text-3-clause-err g c datagrams hex =
    handed_on c.from_residual-in_err-write_text-3.result c.in_err-write_text-3.field-0.0 Io _ c.from_residual-in_err-write_text-3.ensures.1 c.in_err-write_text-3.ensures.err
    (Prints-cut _ _ _ _ _ _ _ _ _ (c.loop-rest.invariant.printing.printed datagrams hex) refl c.in_err-write_text-3.ensures.beginning)

pub returns-in-Ok-flush-clause-ok : goal.returns-in-Ok-flush-clause-ok
returns-in-Ok-flush-clause-ok g c datagrams hex =
    let empty : c.loop-rest.rest.now ≡ [] = nil_from_length _ (eqb-true _ 0 (sym c.is_empty.ensures ∙ c.loop-rest-test.false)) in
    Prints-all _ _ _ _ _ _ _ _ _ (c.loop-rest.invariant.printing.printed datagrams hex) refl _
    (all_done _ _ _ _ _ _ _ _ c.loop-rest.invariant.printing empty datagrams hex) c.in_ok-write_text-3.ensures.ok c.in-Ok-flush.ensures.bytes

pub returns-clause-err : goal.returns-clause-err
returns-clause-err g c datagrams hex =
    Prints-cut _ _ _ _ _ _ _ _ _ (c.loop-rest.invariant.printing.printed datagrams hex) refl
    (take c.loop-rest.len c.loop-rest.text, Appends-kept _ _ _ _ c.in_ok-write_text-3.ensures.ok c.flush.ensures.bytes, ([], sym (append-nil (take c.loop-rest.len c.loop-rest.text))))

pub loop-rest-preserved-then-len-ge-WRITTEN_AT_ONCE : goal.loop-rest-preserved-then-len-ge-WRITTEN_AT_ONCE
loop-rest-preserved-then-len-ge-WRITTEN_AT_ONCE g c =
    let shown = ap (λ (h : Option RtpHeader). take c.loop-rest.len c.loop-rest.text ++ packet_lines (c.loop-rest.packet + 1) h c.in-Ok.verdict) (ap option_copied c.then_some.ensures ∙ shown_is c.in-Ok.found _) in
    let more =
    Printing-more _ _ _ _ c.first_line.result.1.now _ _ _ _ _ _ _ (read_header c.in-Ok.found c.judged-read.new.header) c.in-Ok.verdict c.loop-rest.invariant.printing c.first_line.ensures.first c.first_line.ensures.shorter
    c.in-Ok.ensures.header c.in-Ok.ensures.verdict c.in-Ok.ensures.after (c.put_lines-len.ensures.written ∙ shown) in
    record {
      room = omega arith;
      short = omega arith;
      printing = Printing-written _ _ _ _ _ _ _ _ _ _ more c.in_ok-write_text-2.ensures.ok refl;
    }

pub loop-rest-preserved : goal.loop-rest-preserved
loop-rest-preserved g c =
    let shown = ap (λ (h : Option RtpHeader). take c.loop-rest.len c.loop-rest.text ++ packet_lines (c.loop-rest.packet + 1) h c.in-Ok.verdict) (ap option_copied c.then_some.ensures ∙ shown_is c.in-Ok.found _) in
    let more =
    Printing-more _ _ _ _ c.first_line.result.1.now _ _ _ _ _ _ _ (read_header c.in-Ok.found c.judged-read.new.header) c.in-Ok.verdict c.loop-rest.invariant.printing c.first_line.ensures.first c.first_line.ensures.shorter
    c.in-Ok.ensures.header c.in-Ok.ensures.verdict c.in-Ok.ensures.after (c.put_lines-len.ensures.written ∙ shown) in
    record { room = omega arith; short = omega arith; printing = more }
