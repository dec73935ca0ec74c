use Rattle.std.proofs.Common.{◌≡◌, ◌≤◌, ◌+◌, ◌*◌, take, All}
use Rattle.rtp_route.specs.Template.{total_of}
use Rattle.rtp_c.specs.StoredTemplate.{slots_at}
use Rattle.rtp_c.proofs.stored_slots.StoredSlots.new.Given as goal

-- the places before the index lie in the header
abbrev pub invariant-loop-index : goal.invariant-loop-index
invariant-loop-index l = record {
  within : All (λ slot. slot.start + slot.len ≤ l.made.header_len) (take l.index (slots_at l.made.data_at l.made.data_len));
  total_is : l.total ≡ total_of (take l.index (slots_at l.made.data_at l.made.data_len));
  few : l.total ≤ 255 * l.index;
}
