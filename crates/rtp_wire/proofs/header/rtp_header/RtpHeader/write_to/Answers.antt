use Rattle.rtp_wire.proofs.Common.{arith, drop, subst, ◌++◌, List, ℕ, Slots, IsWire, wire_bytes, image_of}
use Rattle.rtp_wire.proofs.RoundTrip.{IsFirstByte-written}
use Rattle.rtp_wire.proofs.WrittenInFormLemmas.{IsWithinBounds, wire_len_bounds}
use Rattle.rtp_wire.proofs.header.rtp_header.RtpHeader.write_to.Goals as goal

bounds : (g : _) (c : goal.After-slice_known-2-1 g) → IsWithinBounds (g.K.Kinds.slots c.args.exts.now) c.write_in.result
bounds g c =
    subst (λ (exts : Slots). IsWithinBounds exts c.write_in.result) c.of-ids.ensures
    (rw c.write_in.ensures.length (wire_len_bounds c.of-ids.result c.args.self.now c.requires.sources (omega arith) c.write_in.ensures.few))

pub returns-clause-words : goal.returns-clause-words
returns-clause-words g c = (bounds g c).words

pub returns-clause-by_map : goal.returns-clause-by_map
returns-clause-by_map g c = (bounds g c).by_map

pub returns-clause-small : goal.returns-clause-small
returns-clause-small g c = (bounds g c).small

pub returns-clause-bound : goal.returns-clause-bound
returns-clause-bound g c = (bounds g c).bound

pub returns-clause-first_byte : goal.returns-clause-first_byte
returns-clause-first_byte g c =
    IsFirstByte-written c.args.self.now c.of-ids.result c.write_in.new.buf (drop c.write_in.result c.args.buf.now) c.write_in.ensures.written c.requires.sources

pub returns-clause-read_back : goal.returns-clause-read_back
returns-clause-read_back g c =
    subst (λ (exts : Slots). (rest : List ℕ) → IsWire exts (wire_bytes exts c.args.self.now ++ rest) (image_of exts c.args.self.now)) c.of-ids.ensures c.write_in.ensures.read_back
