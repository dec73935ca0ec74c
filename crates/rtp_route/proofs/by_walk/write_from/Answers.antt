use Rattle.std.proofs.Common.{rules, Some, ◌≡◌, ◌≤◌, ◌+◌, ◌*◌, ℕ, List, length, take, drop, All, refl, ap, sym, subst, arith, take_at, length-take, length-take-le, length-append, length-drop}
use Rattle.rtp_ext.specs.Elements.{Element, AreElements}
use Rattle.rtp_ext.specs.ElementReading.{elements_left}
use Rattle.rtp_ext.specs.declared.form.ExtensionsForm.TheVariants.{TwoByte}
use Rattle.rtp_ext.specs.ElementsInARow.{IsWritable}
use Rattle.rtp_ext.specs.NewIds.{new_id}
use Rattle.rtp_ext.proofs.ElementLemmasOfBodies.{AreElements-found}
use Rattle.rtp_wire.specs.PartsAt.{HasLayout}
use Rattle.rtp_wire.specs.PartsOf.{datagram_of}
use Rattle.rtp_wire.proofs.PartsLemmas.{length-packet}
use Rattle.rtp_route.specs.Calls.{header_in}
use Rattle.rtp_route.specs.Walk.{IsMadeFor}
use Rattle.rtp_route.proofs.ByCallsLemmas.{alone_parts, header-is, header-alone}
use Rattle.rtp_route.proofs.ByWalkLemmas.{long-front_of, short-body, laid-of, layout-laid, made-by_walk}
use Rattle.rtp_route.proofs.FormsLemmas.{carries-news, carries-from, fits-from}
use Rattle.rtp_route.proofs.LengthLemmas.{short-header}
use Rattle.rtp_route.proofs.NoneKeptLemmas.{none-kept}
use Rattle.rtp_route.proofs.WalkedLemmas.{written-no_zero}
use Rattle.rtp_route.proofs.WideLemmas.{wide}
use Rattle.rtp_route.proofs.by_walk.write_from.Goals as goal

all-short : (news : List Element) → All (IsWritable TwoByte) news → All (λ (e : Element). length e.1 ≤ 255) news
all-short news all k d there = (all k d there).1.2

pub overflow_add-header : goal.overflow_add-header
overflow_add-header g c =
    omega (arith, short-header c.args.packet.now, length-packet c.header_bytes-header.result.now (alone_parts c.args.packet.now) c.header_bytes-header.ensures.alone)

pub slice_bounds-front-count : goal.slice_bounds-front-count
slice_bounds-front-count g c =
    short-body c.args.packet.now c.in_ok-was.was' c.header_bytes-header.result.now c.in_ok-was.body.now c.header_bytes-header.ensures.alone c.in_ok-was.ensures.parts

pub write_body-requires-clause-some : goal.write_body-requires-clause-some
write_body-requires-clause-some g c =
    omega (arith, long-front_of c.args.packet.now c.in_ok-was.was' c.header_bytes-header.result.now c.in_ok-was.body.now c.header_bytes-header.ensures.alone c.in_ok-was.ensures.parts)

pub write_body-requires-clause-whole : goal.write_body-requires-clause-whole
write_body-requires-clause-whole g c =
    omega (arith, long-front_of c.args.packet.now c.in_ok-was.was' c.header_bytes-header.result.now c.in_ok-was.body.now c.header_bytes-header.ensures.alone c.in_ok-was.ensures.parts)

pub put_front-requires-clause-some : goal.put_front-requires-clause-some
put_front-requires-clause-some g c =
    omega (arith, long-front_of c.args.packet.now c.in_ok-was.was' c.header_bytes-header.result.now c.in_ok-was.body.now c.header_bytes-header.ensures.alone c.in_ok-was.ensures.parts)

pub write_body-requires-clause-elements : goal.write_body-requires-clause-elements
write_body-requires-clause-elements g c =
    let can = g.met.G.GroupTable.can_be_put c.args.group c.requires.table in
    record {
      few = can.few;
      own = can.own;
      writable = carries-news (g.G.GroupTable.allows c.args.group) c.args.start c.in_ok-form.form (g.G.ElementList.elements c.args.group) c.in_ok-form.ensures can.writable;
    }

pub write_body-requires-clause-carries : goal.write_body-requires-clause-carries
write_body-requires-clause-carries g c =
    let was = c.in_ok-was.was' in
    let body = c.in_ok-was.body.now in
    let elements : List Element = elements_left was body in
    carries-from (g.G.GroupTable.allows c.args.group) (new_id (g.G.GroupTable.ids c.args.group)) was c.args.start c.in_ok-form.form body elements (g.G.ElementList.elements c.args.group)
    (c.requires.start was body elements c.in_ok-was.ensures.parts (AreElements-found was body c.in_ok-was.ensures.bytes)) c.in_ok-form.ensures

pub overflow_sub-len : goal.overflow_sub-len
overflow_sub-len g c =
    let was = c.in_ok-was.was' in
    let body = c.in_ok-was.body.now in
    (c.in_ok-len.ensures.written (elements_left was body) (AreElements-found was body c.in_ok-was.ensures.bytes)).after

pub set_fields-requires-clause-held : goal.set_fields-requires-clause-held
set_fields-requires-clause-held g c =
    let packet = c.args.packet.now in
    let was = c.in_ok-was.was' in
    let body = c.in_ok-was.body.now in
    let ids = new_id (g.G.GroupTable.ids c.args.group) in
    let news = g.G.ElementList.elements c.args.group in
    let header = c.header_bytes-header.result.now in
    let form = c.in_ok-form.form in
    let end = c.in_ok-len.len in
    let written = c.write_body.new.buf in
    let slots = take (length (g.G.ElementList.elements c.args.group)) c.write_body.new.slots in
    let laid = laid-of packet ids news was form header body written (drop c.min-most.result c.args.buf.now) c.put_front.new.buf end slots c.header_bytes-header.ensures.front
    c.header_bytes-header.ensures.alone c.in_ok-was.ensures.parts c.in_ok-was.ensures.bytes c.in_ok-len.ensures.written (omega (arith, c.in_ok-len.ensures.within, c.write_body.auto.buf))
    (omega (arith, c.write_body.auto.buf, length-take c.min-most.result c.args.buf.now, c.min-most.ensures)) c.put_front.ensures in
    layout-laid packet ids news was form header body _ c.put_front.new.buf end (elements_left was body) slots laid

pub returns-clause-walked : goal.returns-clause-walked
returns-clause-walked g c =
    let packet = c.args.packet.now in
    let was = c.in_ok-was.was' in
    let body = c.in_ok-was.body.now in
    let ids = new_id (g.G.GroupTable.ids c.args.group) in
    let news = g.G.ElementList.elements c.args.group in
    let header = c.header_bytes-header.result.now in
    let form = c.in_ok-form.form in
    let end = c.in_ok-len.len in
    let written = c.write_body.new.buf in
    let slots = take (length (g.G.ElementList.elements c.args.group)) c.write_body.new.slots in
    let laid = laid-of packet ids news was form header body written (drop c.min-most.result c.args.buf.now) c.put_front.new.buf end slots c.header_bytes-header.ensures.front
    c.header_bytes-header.ensures.alone c.in_ok-was.ensures.parts c.in_ok-was.ensures.bytes c.in_ok-len.ensures.written (omega (arith, c.in_ok-len.ensures.within, c.write_body.auto.buf))
    (omega (arith, c.write_body.auto.buf, length-take c.min-most.result c.args.buf.now, c.min-most.ensures)) c.put_front.ensures in
    let fields = c.args.fields.now in
    let allowed = (g.G.GroupTable.allows c.args.group) in
    let set = c.set_fields.new.header in
    let elements : List Element = elements_left was body in
    let are : AreElements was body elements = AreElements-found was body c.in_ok-was.ensures.bytes in
    let start = c.requires.start was body elements c.in_ok-was.ensures.parts are in
    let fits = fits-from allowed ids was c.args.start form body elements news are start c.in_ok-form.ensures (c.in_ok-len.ensures.written elements are).carried in
    let carried = (g.met.G.GroupTable.can_be_put c.args.group c.requires.table).writable in
    let whole : end ≤ length c.put_front.new.buf = omega (arith, laid.within, c.put_front.auto.buf) in
    let long : length set ≡ end = omega (arith, c.set_fields.auto.header, length-take-le end c.put_front.new.buf whole) in
    let room : 2 * length (header_in packet) + 3 + wide news ≤ c.min-most.result = omega (arith, ap length (header-is packet header laid.whole_is laid.is_packet), c.two_byte_len.ensures, c.if-two_byte_len-room.false, c.in_ok-room.ensures) in
    record {
      made = subst (λ (b : List ℕ). IsMadeFor (datagram_of packet) fields ids news allowed b slots) (sym (take_at set _ end long))
          (made-by_walk packet ids news was form header body _ c.put_front.new.buf end elements slots laid fields allowed set fits are c.set_fields.ensures.set c.set_fields.ensures.fixed long);
      none_refused = none-kept (header_in packet) (alone_parts packet) (header-alone packet).1 refl was body (sym laid.some) elements are fields ids news allowed fits.0 fits.1 form fits.2
          (written-no_zero TwoByte news carried) (all-short news carried) (length c.args.buf.now) (omega (arith, room, c.min-most.ensures)) (omega (arith, room, c.min-most.ensures));
      within = omega (arith, whole, long, length-append set (drop end c.put_front.new.buf), length-drop end c.put_front.new.buf);
      short = laid.short;
    }

pub returns-clause-held : goal.returns-clause-held
returns-clause-held g c =
    let set = c.set_fields.new.header in
    let end = c.in_ok-len.len in
    let long : length set ≡ end = search rules in
    subst (λ (b : List ℕ). HasLayout b end (Some c.in_ok-form.form)) (sym (take_at set _ end long))
    (subst (λ (n : ℕ). HasLayout set n (Some c.in_ok-form.form)) long c.set_fields.ensures.held)
