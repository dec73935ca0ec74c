use Rattle.rtp_wire.proofs.Common.{arith, ap, sym, ◌∙◌, ◌≡◌, ◌*◌, ℕ, length, take, flat_map, w32, to_be_bytes, length-take-le, overwritten, overwritten-nil, overwritten-overwritten}
use Rattle.rtp_wire.proofs.GroupLemmas.{flat_map-take_more, length-numbers}
use Rattle.rtp_wire.proofs.header.fixed_part.put_sources.Goals as goal

pub loop-source-init : goal.loop-source-init
loop-source-init c = record { written = sym (overwritten-nil c.args.buf.now c.args.at); ends = omega arith }

pub loop-source-preserved : goal.loop-source-preserved
loop-source-preserved c =
    let sources = c.args.sources.now in
    let done = c.loop-source.source-index in
    let bytes = flat_map (to_be_bytes w32) (take done sources) in
    let within = c.loop-source-test.true in
    let len : length bytes ≡ 4 * done = length-numbers (take done sources) ∙ ap (λ (k : ℕ). 4 * k) (length-take-le done sources (omega arith)) in
    record {
      written = c.put-end.ensures.written ∙ rw c.to_be_bytes.ensures (rw c.loop-source.invariant.written
          (overwritten-overwritten c.args.buf.now bytes _ c.args.at c.loop-source.end (omega (arith, c.loop-source.invariant.ends)) (omega (arith, c.requires, c.loop-source.invariant.ends)))
          ∙ ap (overwritten c.args.buf.now c.args.at) (sym (flat_map-take_more (to_be_bytes w32) sources done within)));
      ends = omega (arith, c.put-end.ensures.end, c.loop-source.invariant.ends, ap length c.to_be_bytes.ensures);
    }
