use Rattle.std.proofs.Common.{ℤ, ◌/◌, inl, inr, refl, subst, rules}
use Rattle.rtp_base.specs.Ring.{ring_size}
use Rattle.rtp_receive.specs.Restarting.{Bounds, IsPlaced}
use Rattle.rtp_receive.specs.RestartingState.{Leads, Grows}
use Rattle.rtp_receive.proofs.RestartingLemmas.{settled-verdict, settled-row}
use Rattle.rtp_c.specs.StoredRestarting.{IsTold}
use Rattle.rtp_c.specs.StoredWideRestarting.{bounds_with}
use Rattle.rtp_c.proofs.StatusLemmas.{passed_on}
use Rattle.rtp_c.proofs.WideRestartingLemmas.{holds_in}
use Rattle.rtp_c.proofs.wide_restarting.rtpw_wide_restarting_receive.Goals as goal

pub returns-clause-answered : goal.returns-clause-answered
returns-clause-answered c few taken holds =
    let old = c.args.receiver.now in
    let words = c.args.words.now in
    let low = c.args.sequence_number in
    let Lead = Leads old.in_row old.next low in
    let row = c.judge-placed.new.self in
    let placed = c.judge-placed.result in
    let held = holds_in old words taken holds in
    let top = c.highest_of.ensures words (old.highest / 65536) taken held in
    let settled = c.settle-verdict.ensures.settled (old.highest / 65536) taken held in
    let is_placed = c.judge-placed.ensures.placed (ring_size words) 1 taken top (λ _. refl) in
    record {
      verdict = c.settle-verdict.result;
      judged = settled-verdict (bounds_with old words) 1 taken Lead low placed c.settle-verdict.result (subst (λ (b : Bounds). IsPlaced b 1 taken Lead low placed) c.bounds_of-bounds.ensures is_placed) settled;
      told = passed_on c.tell.result (search rules) (λ (z : ℤ). IsTold c.settle-verdict.result z c.tell.new.number) c.tell.ensures.told;
      epoch = elim (c.settle-verdict.ensures.epoch (old.highest / 65536) taken held) [ inl empty ↦ inl (empty.0, empty.2) | inr kept ↦ inr kept ];
      row = subst (λ (b : Bounds). Grows b taken low c.settle-verdict.result old.in_row old.next row.len row.next) c.bounds_of-bounds.ensures
          (settled-row _ 1 taken Lead low placed c.settle-verdict.result old.in_row old.next row.len row.next is_placed settled (c.judge-placed.ensures.row (ring_size words) taken top));
    }
