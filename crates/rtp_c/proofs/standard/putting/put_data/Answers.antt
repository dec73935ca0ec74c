use Rattle.std.proofs.Common.{refl, sym, inl, arith}
use Rattle.rtp_c.proofs.StandardLemmas.{StandAtFront-put}
use Rattle.rtp_c.proofs.StatusLemmas.{short_buffer≢ok}
use Rattle.rtp_c.proofs.standard.putting.put_data.Goals as goal

pub returns : goal.returns
returns c = record {
  written = λ _. StandAtFront-put c.args.buf.now c.args.bytes.now c.put.new.buf c.put.result (omega arith) c.put.ensures.written;
  short = (λ is. absurd (short_buffer≢ok (sym is)), λ less. absurd (omega (arith, less)));
  statuses = inl refl;
  unchanged = λ no. absurd (no refl);
}
