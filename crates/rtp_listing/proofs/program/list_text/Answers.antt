use Rattle.rtp_listing.proofs.Common.{refl, sym, ◌∙◌, NoMemory, Io, of_bad_line}
use Rattle.rtp_listing.proofs.PrintLemmas.{handed_on}
use Rattle.rtp_listing.proofs.RunLemmas.{on_err, Prints-none, IsOutputOf-listed, IsLeft-stopped}
use Rattle.rtp_listing.proofs.program.list_text.Goals as goal

pub returns-in-Ok-clause-ok : goal.returns-in-Ok-clause-ok
returns-in-Ok-clause-ok g c =
    let (datagrams, hex, spells) = c.in-Ok.ensures.spelled in
    IsOutputOf-listed c.print_all.result c.args.text.now c.in-Ok.input.exts datagrams _ _ spells (c.print_all.ensures.ok datagrams hex)

pub returns-in-Ok-clause-err : goal.returns-in-Ok-clause-err
returns-in-Ok-clause-err g c =
    let (datagrams, hex, spells) = c.in-Ok.ensures.spelled in
    on_err c.print_all.result _ _ (IsLeft-stopped c.args.text.now c.in-Ok.input.exts datagrams _ _ spells) (c.print_all.ensures.err datagrams hex)

pub returns-in_err-line-in-Err-BadLine-clause-err : goal.returns-in_err-line-in-Err-BadLine-clause-err
returns-in_err-line-in-Err-BadLine-clause-err g c =
    handed_on c.from_residual.result NoMemory NoMemory _ c.from_residual.ensures.1 refl (Prints-none c.args.text.now (g.W.Write.contents c.args.output.now))

pub returns-in_err-write_text-in-Err-BadLine-clause-err : goal.returns-in_err-write_text-in-Err-BadLine-clause-err
returns-in_err-write_text-in-Err-BadLine-clause-err g c =
    let (printed, appends, (rest, split)) = c.in_err-write_text-in-Err-BadLine.ensures.beginning in
    handed_on c.from_residual-in_err-write_text-in-Err-BadLine.result c.in_err-write_text-in-Err-BadLine.field-0.0 Io _
    c.from_residual-in_err-write_text-in-Err-BadLine.ensures.1 c.in_err-write_text-in-Err-BadLine.ensures.err (
      printed,
      appends,
      of_bad_line rest (record {
        number = c.in-Err-BadLine.number;
        first = c.in-Err-BadLine.ensures.bad_line c.in-Err-BadLine.number c.in-Err-BadLine.field-0-is;
        printed_is = sym split ∙ c.as_bytes.ensures.value ∙ c.in_ok-line-in-Err-BadLine.ensures.ok;
      }),
    )

pub returns-in_ok-write_text-in-Err-BadLine-clause-err : goal.returns-in_ok-write_text-in-Err-BadLine-clause-err
returns-in_ok-write_text-in-Err-BadLine-clause-err g c = (
  c.as_bytes.result.now,
  c.in_ok-write_text-in-Err-BadLine.ensures.ok,
  record {
    number = c.in-Err-BadLine.number;
    first = c.in-Err-BadLine.ensures.bad_line c.in-Err-BadLine.number c.in-Err-BadLine.field-0-is;
    printed_is = c.as_bytes.ensures.value ∙ c.in_ok-line-in-Err-BadLine.ensures.ok;
  },
)
