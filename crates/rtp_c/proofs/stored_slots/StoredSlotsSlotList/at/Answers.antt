use Rattle.std.proofs.Common.{◌≤◌, length, sym, ◌∙◌, arith}
use Rattle.rtp_c.proofs.TemplateLemmas.{count-of, place-at}
use Rattle.rtp_c.proofs.stored_slots.StoredSlotsSlotList.at.Goals as goal

pub returns : goal.returns
returns c =
    let made = c.args.self.now.made.now in
    let starts = c.args.self.now.starts in
    let lens = c.args.self.now.lens in
    let few : made.count ≤ length made.data_at = omega (arith, c.args.self.now.few, starts) in
    rw c.from.ensures
    (place-at made.data_at made.data_len made.count c.args.index (starts ∙ sym lens) few (omega (arith, c.requires, count-of made.data_at made.data_len made.count (starts ∙ sym lens) few)))
