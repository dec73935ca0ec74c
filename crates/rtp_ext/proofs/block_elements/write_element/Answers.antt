use Rattle.rtp_ext.proofs.Common.{arith, sym, ap, ◌∙◌, refl, [], ◌+◌, ◌-◌, ◌≤◌, ◌≡◌, ℕ, length, unwrap_or, take_rest, length-drop, element_or_nothing, element_header, ExtensionsForm, OneByte, TwoByte, overwritten, extension_of_kind, spelled_data, overwritten-nil, overwritten-rest}
use Rattle.rtp_ext.proofs.WrittenBlockLemmas.{HasNone-from_none, room-for_data, none-from_map, element_or_nothing-put, IsCarried-from}
use Rattle.rtp_ext.proofs.block_elements.write_element.Goals as goal

pub write_data-requires : goal.write_data-requires
write_data-requires g c = record {
  room = λ short bytes is.
      let start = c.args.at + c.element_header_len.result in
      let room = room-for_data c.args.form c.args.id (spelled_data (extension_of_kind c.args.kind) (g.V.ElementValues.values c.args.ev.now)) c.element_header_len.result
      (length c.args.buf.now - c.args.at) c.element_header_len.ensures (omega (arith, c.requires.room)) (omega (arith, c.requires.header, c.element_header_len.ensures c.args.id 0)) in
      let long = rw is at room in
      rw (take_rest c.args.buf.now start) (omega (arith, length-drop start c.args.buf.now, long, c.requires.header, c.element_header_len.ensures c.args.id 0));
}

pub returns-in_default-clause-written : goal.returns-in_default-clause-written
returns-in_default-clause-written g c =
    let start = c.args.at + c.element_header_len.result in
    let none = none-from_map (spelled_data (extension_of_kind c.args.kind) (g.V.ElementValues.values c.args.ev.now)) (sym c.in_default.is ∙ c.write_data.ensures.length_is) in
    let back = HasNone-from_none c.args.form (g.V.ElementValues.values c.args.ev.now) c.args.buf.now c.args.at c.args.id (extension_of_kind c.args.kind) none in
    let data_put = overwritten-rest c.args.buf.now c.write_data.new.buf (unwrap_or (spelled_data (extension_of_kind c.args.kind) (g.V.ElementValues.values c.args.ev.now)) [])
    start (omega (
      arith,
      room-for_data c.args.form c.args.id (spelled_data (extension_of_kind c.args.kind) (g.V.ElementValues.values c.args.ev.now)) c.element_header_len.result
          (length c.args.buf.now - c.args.at) c.element_header_len.ensures (omega (arith, c.requires.room)) (omega (arith, c.requires.header, c.element_header_len.ensures c.args.id 0)),
    )) c.write_data.ensures.written in
    data_put ∙ (ap (λ bytes. overwritten c.args.buf.now start (unwrap_or bytes [])) none
    ∙ (overwritten-nil c.args.buf.now start ∙ back.written))

-- the data are put after the header, and it in front of them
element_put : (g : _) (c : goal.After-slice_known-3-1 g) →
    (c.write_header.new.buf ≡ overwritten c.args.buf.now c.args.at (element_or_nothing c.args.form c.args.id (spelled_data (extension_of_kind c.args.kind) (g.V.ElementValues.values c.args.ev.now))))
    × (c.args.at + c.element_header_len.result + c.in-Some.len ≡ c.args.at + length (element_or_nothing c.args.form c.args.id (spelled_data (extension_of_kind c.args.kind) (g.V.ElementValues.values c.args.ev.now))))
element_put g c =
    let bytes = spelled_data (extension_of_kind c.args.kind) (g.V.ElementValues.values c.args.ev.now) in
    let start = c.args.at + c.element_header_len.result in
    let room : c.element_header_len.result + length (unwrap_or bytes []) ≤ length c.args.buf.now - c.args.at =
    room-for_data c.args.form c.args.id bytes c.element_header_len.result
    (length c.args.buf.now - c.args.at) c.element_header_len.ensures (omega (arith, c.requires.room)) (omega (arith, c.requires.header, c.element_header_len.ensures c.args.id 0)) in
    element_or_nothing-put c.args.form c.args.id c.in-Some.len c.args.at start c.args.buf.now bytes
    (sym c.in-Some.is ∙ c.write_data.ensures.length_is) (ap (λ (h : ℕ). c.args.at + h) (c.element_header_len.ensures c.args.id c.in-Some.len)) c.requires.room
    (overwritten-rest c.args.buf.now c.write_data.new.buf (unwrap_or bytes []) start (omega (arith, room, c.requires.header, c.element_header_len.ensures c.args.id 0)) c.write_data.ensures.written)
    c.write_header.ensures

pub returns-clause-written : goal.returns-clause-written
returns-clause-written g c = (element_put g c).0

pub returns-clause-end : goal.returns-clause-end
returns-clause-end g c = (element_put g c).1

pub returns-clause-carried : goal.returns-clause-carried
returns-clause-carried g c =
    IsCarried-from c.args.form (g.V.ElementValues.values c.args.ev.now) c.args.id (extension_of_kind c.args.kind) (spelled_data (extension_of_kind c.args.kind) (g.V.ElementValues.values c.args.ev.now)) refl
    c.requires.id (omega arith) c.requires.fits c.write_data.ensures.read_back c.write_data.ensures.few

-- a header has at most two bytes
few : (form : ExtensionsForm) (header : ℕ) → ((id len : ℕ) → header ≡ length (element_header form id len)) → header ≤ 2
few OneByte header is = omega (arith, is 0 0)
few TwoByte header is = omega (arith, is 0 0)

pub overflow_add-start : goal.overflow_add-start
overflow_add-start g c = omega (arith, few c.args.form c.element_header_len.result c.element_header_len.ensures, c.requires.room)
