use Rattle.rtp_wire.proofs.Common.{◌+◌, ◌≤◌, ap, refl, arith, length, length-drop, ℕ, List, drop, take_rest, ExtensionsForm, ExtensionValues, Slots, elements_bytes, written_elements, block_bytes_in}
use Rattle.rtp_wire.proofs.BlockWriting.{length-block, row-put, block_bytes_in-closed, IsExtensionPart-written}
use Rattle.rtp_wire.proofs.header.block.write_block.Goals as goal

abbrev row : ExtensionsForm → Slots → ExtensionValues → List ℕ
row form exts ev = elements_bytes form (written_elements exts ev)

-- room for the elements after the first four bytes
room : (form : ExtensionsForm) (exts : Slots) (ev : ExtensionValues) (buf : List ℕ) → length (block_bytes_in form exts ev) ≤ length buf → 4 + length (row form exts ev) ≤ length buf
room form exts ev buf fits = omega (arith, fits, length-block form exts ev (length (row form exts ev)) refl)

pub slice_bounds-write_values-count : goal.slice_bounds-write_values-count
slice_bounds-write_values-count g c = omega (arith, room c.args.form c.args.ids.now (g.V.ElementValues.values c.args.ev.now) c.args.buf.now c.requires.room)

pub slice_bounds-write_values-start : goal.slice_bounds-write_values-start
slice_bounds-write_values-start g c = omega (arith, room c.args.form c.args.ids.now (g.V.ElementValues.values c.args.ev.now) c.args.buf.now c.requires.room)

pub write_values-elements_len-requires-clause-room : goal.write_values-elements_len-requires-clause-room
write_values-elements_len-requires-clause-room g c =
    let buf = c.args.buf.now in
    omega (
      arith,
      room c.args.form c.args.ids.now (g.V.ElementValues.values c.args.ev.now) buf c.requires.room,
      ap length (take_rest buf 4),
      length-drop 4 buf,
    )

pub close_block-requires-clause-room : goal.close_block-requires-clause-room
close_block-requires-clause-room g c =
    let exts = c.args.ids.now in
    let put = row-put (row c.args.form exts (g.V.ElementValues.values c.args.ev.now)) c.args.buf.now c.write_values-elements_len.new.buf c.write_values-elements_len.result
    c.write_values-elements_len.ensures.length c.write_values-elements_len.ensures.written
    (room c.args.form exts (g.V.ElementValues.values c.args.ev.now) c.args.buf.now c.requires.room) in
    omega (arith, put.long, c.requires.room, length-block c.args.form exts (g.V.ElementValues.values c.args.ev.now) c.write_values-elements_len.result c.write_values-elements_len.ensures.length)

pub returns-clause-written : goal.returns-clause-written
returns-clause-written g c =
    let exts = c.args.ids.now in
    let buf = c.args.buf.now in
    let bytes = row c.args.form exts (g.V.ElementValues.values c.args.ev.now) in
    let put = row-put bytes buf c.write_values-elements_len.new.buf c.write_values-elements_len.result
    c.write_values-elements_len.ensures.length c.write_values-elements_len.ensures.written
    (room c.args.form exts (g.V.ElementValues.values c.args.ev.now) buf c.requires.room) in
    block_bytes_in-closed c.args.form exts (g.V.ElementValues.values c.args.ev.now) c.close_block.new.buf (drop c.close_block.result buf)
    (c.close_block.ensures.closed buf bytes put.put put.long c.write_values-elements_len.ensures.length)

pub returns-clause-length : goal.returns-clause-length
returns-clause-length g c =
    omega (
      arith,
      c.close_block.ensures.length,
      length-block c.args.form c.args.ids.now (g.V.ElementValues.values c.args.ev.now) c.write_values-elements_len.result c.write_values-elements_len.ensures.length,
    )

pub returns-clause-read_back : goal.returns-clause-read_back
returns-clause-read_back g c =
    IsExtensionPart-written c.args.form c.args.ids.now (g.V.ElementValues.values c.args.ev.now) c.write_values-elements_len.result
    c.write_values-elements_len.ensures.length c.write_values-elements_len.ensures.bound c.write_values-elements_len.ensures.elements c.write_values-elements_len.ensures.values
