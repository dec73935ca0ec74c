use Rattle.std.proofs.Common.{◌≡◌, ◌+◌, ◌-◌, ◌<◌, ◌∷◌, [], List, ℕ, replicate, ap, ◌∙◌, length, length-append, arith}
use Rattle.std.proofs.lemmas.List.{length-replicate}
use Rattle.rtp_base.specs.Overwriting.{overwritten}
use Rattle.rtp_wire.specs.Padding.{padding_bytes}
use Rattle.rtp_base.proofs.OverwritingLemmas.{overwritten-after}
use Rattle.rtp_uses.proofs.padding.write_padding.Goals as goal

pub returns-clause-written : goal.returns-clause-written
returns-clause-written c =
    let wanted : 0 < c.args.pad_len = omega arith in
    let start = c.write_to-start.result in
    let count = c.create_padding_packet.result in
    let some = c.create_padding_packet.ensures.some wanted in
    let long : length (padding_bytes count) ≡ count =
    length-append (replicate (count - 1) 0) (count ∷ []) ∙ omega (arith, some, length-replicate {A = ℕ} (count - 1) 0) in
    record {
      count = count;
      count_is = c.create_padding_packet.ensures.length wanted;
      len_is = ap (λ (k : ℕ). k + count) c.write_to-start.ensures.length;
      bytes = c.create_padding_packet.ensures.put wanted _ _ c.write_to-start.ensures.first_byte
          ∙ (ap (λ (xs : List ℕ). overwritten xs start (padding_bytes count)) c.write_to-start.ensures.written
          ∙ overwritten-after _ (padding_bytes count) c.args.out.now start (start + count) c.write_to-start.ensures.length (omega (arith, long)));
    }
