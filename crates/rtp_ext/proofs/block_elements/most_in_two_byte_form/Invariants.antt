use Rattle.rtp_ext.proofs.Common.{◌≤◌, ◌+◌, ◌*◌, length, ExtensionValues, TwoByte, items_bytes, HasFewData}
use Rattle.rtp_ext.proofs.block_elements.most_in_two_byte_form.Given as goal

-- what is left takes the rest
abbrev pub invariant-loop-kind : goal.invariant-loop-kind
invariant-loop-kind g l =
    ((values : ExtensionValues) → HasFewData values → length (items_bytes TwoByte values l.initial.items) ≤ l.most + length (items_bytes TwoByte values l.items))
    × (l.most + 257 * length l.items ≤ 65535)

abbrev pub decreases-loop-kind : goal.decreases-loop-kind
decreases-loop-kind g l = length l.items
