use Rattle.rtp_wire.proofs.Common.{arith, IsPaddingLength}
use Rattle.rtp_wire.proofs.PaddingLemmas.{IsPaddingLength-near, IsPaddingLength-beyond, IsPaddingLength-once}
use Rattle.rtp_wire.proofs.payload.padding.padding_len.Goals as goal

pub returns-then-block_size-gt-MAX_BLANK_PADDING_PAYLOAD_SIZE-clause-length :
    goal.returns-then-block_size-gt-MAX_BLANK_PADDING_PAYLOAD_SIZE-clause-length
returns-then-block_size-gt-MAX_BLANK_PADDING_PAYLOAD_SIZE-clause-length c = IsPaddingLength-beyond c.args.pad_len c.args.block_size (omega arith) (omega arith) (omega arith)

-- the least whole blocks, cut at 240
rounded : (c : goal.After-min) → IsPaddingLength c.args.pad_len c.args.block_size c.min.result
rounded c =
    let whole = c.next_multiple_of-whole.ensures in
    IsPaddingLength-near c.args.pad_len c.args.block_size c.next_multiple_of-whole.result c.min.result
    whole.multiple (omega (arith, whole.lower_bound)) (omega (arith, whole.upper_bound)) c.min.ensures

pub returns-clause-length : goal.returns-clause-length
returns-clause-length c = rounded c

pub returns-clause-only : goal.returns-clause-only
returns-clause-only c n is = IsPaddingLength-once c.args.pad_len c.args.block_size c.min.result n (rounded c) is
