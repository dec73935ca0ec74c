use Rattle.rtp_listing.proofs.Common.{ℕ, List, take, refl, sym, ap, subst, packet_id_of}
use Rattle.rtp_receive.proofs.SourceLemmas.{HoldsEach-after}
use Rattle.rtp_listing.specs.HeaderBytes.{HoldsHeader}
use Rattle.rtp_listing.proofs.HeaderBytesLemmas.{IsHeader-front}
use Rattle.rtp_listing.proofs.PrintLemmas.{IsHeader-read}
use Rattle.rtp_listing.proofs.printing.judged.Goals as goal
use Rattle.rtp_listing.proofs.printing.judged.Goals.{then-found+in_ok-verdict, else-found}

pub returns-clause-header : goal.returns-clause-header
returns-clause-header c bytes decoded =
    let read = ap (λ (all : List ℕ). take c.in_ok-len.len all) c.deref.ensures.value in
    let front = subst (λ (front : List ℕ). HoldsHeader bytes front) (sym read) (c.in_ok-len.ensures.header bytes decoded) in
    IsHeader-front c.args.exts.now bytes _ _ front
    (IsHeader-read c.args.exts.now _ c.in_ok-found.found c.parse_into.new.self c.in_ok-found.ensures.found c.in_ok-found.ensures.only)

pub returns-clause-verdict : goal.returns-clause-verdict
returns-clause-verdict c taken holds =
    elim c.if-found.branch [
      | then-found+in_ok-verdict w ↦ rw (w.verdict-is, w.if-found.true) (w.in_ok-verdict.ensures.verdict 0 (taken c.parse_into.new.self.ssrc) (holds c.parse_into.new.self.ssrc))
      | else-found w ↦ rw (w.verdict-is, w.if-found.false) refl
    ]

pub returns-clause-after : goal.returns-clause-after
returns-clause-after c taken holds =
    elim c.if-found.branch [
      | then-found+in_ok-verdict w ↦ rw (w.receivers-is, w.verdict-is, w.if-found.true) (HoldsEach-after 0 c.args.receivers.now w.receive.new.self taken (packet_id_of c.parse_into.new.self) w.in_ok-verdict.verdict holds w.in_ok-verdict.ensures.source.count (w.in_ok-verdict.ensures.after 0 (taken c.parse_into.new.self.ssrc) (holds c.parse_into.new.self.ssrc)) w.in_ok-verdict.ensures.source.others)
      | else-found w ↦ rw (w.receivers-is, w.verdict-is, w.if-found.false) holds
    ]
