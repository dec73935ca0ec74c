use Rattle.std.proofs.Common.{sym, ◌∙◌, arith}
use Rattle.rtp_c.proofs.TemplateLemmas.{count-of}
use Rattle.rtp_c.proofs.stored_slots.StoredSlotsSlotList.count.Goals as goal

pub returns : goal.returns
returns c =
    let made = c.args.self.now.made.now in
    let starts = c.args.self.now.starts in
    let lens = c.args.self.now.lens in
    sym (count-of made.data_at made.data_len made.count (starts ∙ sym lens) (omega (arith, c.args.self.now.few, starts)))
