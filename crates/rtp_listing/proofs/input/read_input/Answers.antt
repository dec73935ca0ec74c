use Rattle.rtp_listing.proofs.Common.{◌≡◌, subst, sym, lines, Spells, IsFirstNotHex, Slots}
use Rattle.rtp_listing.proofs.ReadLemmas.{IsFirstBadLine-after, Spells-standard, Spells-mapped}
use Rattle.rtp_listing.proofs.input.read_input.Goals as goal
use Rattle.rtp_listing.proofs.input.read_input.Goals.{then-count-eq0, else-count-eq0}

pub returns-in-Some-clause-bad_line : goal.returns-in-Some-clause-bad_line
returns-in-Some-clause-bad_line c n is =
    let same : c.in-Some.number ≡ n = cc in
    IsFirstBadLine-after c.args.text.now c.in_ok-exts.datagrams.now c.in_ok-exts.exts c.in_ok-exts.count n c.in_ok-exts.ensures.front c.in_ok-exts.ensures.all
    (subst (IsFirstNotHex (lines c.in_ok-exts.datagrams.now) c.in_ok-exts.count) same c.in-Some.ensures.found)

pub returns-clause-spelled : goal.returns-clause-spelled
returns-clause-spelled c =
    let (datagrams, spelled) = c.in_default.ensures.none in (
      datagrams,
      spelled,
      elim c.if-count-eq0.branch [
        | then-count-eq0 w ↦ subst (λ (exts : Slots). Spells c.args.text.now exts datagrams) (sym w.exts-is)
            (Spells-standard c.args.text.now c.in_ok-exts.datagrams.now c.in_ok-exts.exts w.standard-exts.result c.in_ok-exts.count datagrams c.in_ok-exts.ensures.front
            spelled w.if-count-eq0.true (w.standard-exts.ensures.items, w.standard-exts.ensures.unlocked))
        | else-count-eq0 w ↦ subst (λ (exts : Slots). Spells c.args.text.now exts datagrams) (sym w.exts-is)
            (Spells-mapped c.args.text.now c.in_ok-exts.datagrams.now c.in_ok-exts.exts c.in_ok-exts.count datagrams c.in_ok-exts.ensures.front
            spelled w.if-count-eq0.false)
      ],
    )
