use Rattle.rtp_ext.proofs.Common.{◌≡◌, ◌-◌, true, drop, refl, ◌∙◌, false≢true, paste, goes}
use Rattle.rtp_ext.proofs.GatheredLemmas.{goes-this, goes-zero, IsGatheredTo-start, IsGatheredTo-gone, IsGatheredTo-other, IsGathered-end, start-same}
use Rattle.rtp_ext.proofs.gathering.gather_in.Goals as goal
use Rattle.rtp_ext.proofs.gathering.gather_in.Goals.{then-len-place, else-len-place, then-place-id-via-then-place-id, then-place-id-via-else-place-id+then-is_paddings}

pub loop-place-init : goal.loop-place-init
loop-place-init c = IsGatheredTo-start c.args.form c.args.id c.args.body.now

pub loop-place-preserved-then-place-id : goal.loop-place-preserved-then-place-id
loop-place-preserved-then-place-id c =
    let gone : goes c.args.id (c.in-Some.place.id, c.in-Some.ensures.found.bytes) ≡ true =
    elim c.then-place-id.branch [
      | then-place-id-via-then-place-id w ↦ goes-this c.args.id (c.in-Some.place.id, c.in-Some.ensures.found.bytes) w.if-place-id.true
      | then-place-id-via-else-place-id+then-is_paddings w ↦
          goes-zero c.args.id (c.in-Some.place.id, c.in-Some.ensures.found.bytes) (w.if-is_paddings.ensures.0 refl)
    ] in
    IsGatheredTo-gone c.loop-place.invariant c.in-Some.ensures.found gone

moved_or_not : goal.loop-place-preserved
moved_or_not c =
    let is : c.if-len-place.body ≡ paste c.loop-place.body c.loop-place.len (drop c.in-Some.place.start c.loop-place.body) (c.in-Some.place.end - c.in-Some.place.start) =
    elim c.if-len-place.branch [
      | then-len-place w ↦ w.body-is ∙ w.copy_within.ensures.after
      | else-len-place w ↦ w.body-is ∙ start-same c.loop-place.invariant c.in-Some.ensures.found w.if-len-place.false
    ] in
    IsGatheredTo-other c.loop-place.invariant c.in-Some.ensures.found
    c.if-len-place.body c.if-place-id.false (λ zero_id. absurd (false≢true (c.if-is_paddings.ensures.1 zero_id))) is

pub loop-place-preserved : goal.loop-place-preserved
loop-place-preserved c = moved_or_not c

pub returns : goal.returns
returns c = IsGathered-end c.loop-place.invariant c.in_default.ensures.none
