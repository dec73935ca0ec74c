use Rattle.std.proofs.Common.{arith}
use Rattle.rtp_route.specs.StoredGroup.{elements_in}
use Rattle.rtp_route.specs.GroupLaws.{length-elements}
use Rattle.rtp_route.proofs.KnownGroupLemmas.{wide-blank, wide-carried}
use Rattle.rtp_route.proofs.known_group.KnownGroupGroupTable.two_byte_len.Goals as goal

pub overflow_add-result : goal.overflow_add-result
overflow_add-result c =
    let known = c.args.self.now in
    let group = known.group.now in
    omega (
      arith,
      wide-blank group.element_ids group.data_lens group.count (omega (arith, known.is_group.few, known.ids)) (omega (arith, known.is_group.few, known.lens)),
      wide-carried (elements_in group) known.is_group.carried,
      length-elements group known.is_group.few known.ids known.lens,
      known.is_group.few,
      known.is_group.total_is,
      c.from.ensures,
      c.from-2.ensures,
    )

pub returns : goal.returns
returns c =
    let known = c.args.self.now in
    let group = known.group.now in
    omega (
      arith,
      wide-blank group.element_ids group.data_lens group.count (omega (arith, known.is_group.few, known.ids)) (omega (arith, known.is_group.few, known.lens)),
      known.is_group.total_is,
      c.from.ensures,
      c.from-2.ensures,
    )
