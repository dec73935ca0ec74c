use Rattle.rtp_wire.proofs.Common.{◌≡◌, ◌+◌, ◌-◌, ◌*◌, ◌≤◌, ℕ, List, [], refl, sym, ap, ◌∙◌, ◌++◌, length, drop, take, arith, length-take-le, Some, overwritten, ExtensionsForm, Slots, RtpHeader, with_values, extension_bytes, fixed_bytes, wire_bytes, announced_form, block_bytes_in, overwritten-nil, overwritten-rest}
use Rattle.rtp_wire.proofs.FixedLemmas.{fixed_with}
use Rattle.rtp_wire.proofs.RoundTrip.{sources_within, length-wire_bytes, wire_bytes-from_pieces, IsWire-written, AllByRecursion-from_each}
use Rattle.rtp_wire.proofs.WrittenInFormLemmas.{no_part, a_part, IsExtensionPart-none, IsExtensionPart-some}
use Rattle.rtp_wire.proofs.header.writing_values.write_in.Goals as goal

pub put-end-requires : goal.put-end-requires
put-end-requires g c =
    omega (
      arith,
      c.requires.room,
      length-wire_bytes c.args.ids.now (with_values (g.F.GetFields.header c.args.fields.now) (g.V.ElementValues.values c.args.values.now))
          (sources_within c.requires.sources c.fixed_bytes.ensures.slots),
      ap length
          (fixed_with (g.F.GetFields.header c.args.fields.now) c.fixed_bytes.ensures.bytes c.fixed.ensures.has_extension),
    )

pub put_csrc-end-requires : goal.put_csrc-end-requires
put_csrc-end-requires g c =
    omega (
      arith,
      c.requires.room,
      length-wire_bytes c.args.ids.now (with_values (g.F.GetFields.header c.args.fields.now) (g.V.ElementValues.values c.args.values.now))
          (sources_within c.requires.sources c.fixed_bytes.ensures.slots),
      ap length (fixed_with (g.F.GetFields.header c.args.fields.now) c.fixed_bytes.ensures.bytes c.fixed.ensures.has_extension),
      c.put-end.ensures.end,
      length-take-le (g.F.GetFields.header c.args.fields.now).csrc_count (g.F.GetFields.header c.args.fields.now).csrc (sources_within c.requires.sources c.fixed_bytes.ensures.slots),
    )

-- without a form nothing is put after the sources
none : (g : _) (c : goal.In_default g) → extension_bytes c.args.ids.now (g.F.GetFields.header c.args.fields.now).has_extension (g.V.ElementValues.values c.args.values.now) ≡ []
none g c = no_part c.args.ids.now (g.F.GetFields.header c.args.fields.now).has_extension (g.V.ElementValues.values c.args.values.now) (sym c.in_default.is ∙ c.requires.form)

none_put : (g : _) (c : goal.In_default g) → (c.put_csrc-end.result ≡ length (wire_bytes c.args.ids.now (with_values (g.F.GetFields.header c.args.fields.now) (g.V.ElementValues.values c.args.values.now))))
    × (c.put_csrc-end.new.buf ≡ wire_bytes c.args.ids.now (with_values (g.F.GetFields.header c.args.fields.now)
    (g.V.ElementValues.values c.args.values.now)) ++ drop c.put_csrc-end.result c.args.buf.now)
none_put g c =
    wire_bytes-from_pieces (with_values (g.F.GetFields.header c.args.fields.now)
    (g.V.ElementValues.values c.args.values.now)) c.args.ids.now c.args.buf.now c.put-end.new.buf c.put_csrc-end.new.buf c.put_csrc-end.new.buf
    c.fixed_bytes.result c.put-end.result c.put_csrc-end.result c.put_csrc-end.result (sources_within c.requires.sources c.fixed_bytes.ensures.slots) c.requires.room
    (fixed_with (g.F.GetFields.header c.args.fields.now) c.fixed_bytes.ensures.bytes c.fixed.ensures.has_extension)
    c.put-end.ensures.written c.put-end.ensures.end c.put_csrc-end.ensures.written c.put_csrc-end.ensures.end
    (rw (none g c) (sym (overwritten-nil c.put_csrc-end.new.buf c.put_csrc-end.result))) (omega (arith, ap length (none g c)))

pub returns-in_default-clause-written : goal.returns-in_default-clause-written
returns-in_default-clause-written g c = (none_put g c).1

pub returns-in_default-clause-length : goal.returns-in_default-clause-length
returns-in_default-clause-length g c = (none_put g c).0

pub returns-in_default-clause-few : goal.returns-in_default-clause-few
returns-in_default-clause-few g c = (omega (arith, ap length (none g c)), omega (arith, ap length (none g c)))

pub returns-in_default-clause-read_back : goal.returns-in_default-clause-read_back
returns-in_default-clause-read_back g c rest = IsWire-written (with_values (g.F.GetFields.header c.args.fields.now) (g.V.ElementValues.values c.args.values.now)) c.args.ids.now rest (record {
  payload_type = c.requires.payload_type;
  count = c.requires.sources;
  slots = c.fixed_bytes.ensures.slots;
  number = c.fixed_bytes.ensures.number;
  timestamp = c.fixed_bytes.ensures.timestamp;
  ssrc = c.fixed_bytes.ensures.ssrc;
  sources = AllByRecursion-from_each (take (g.F.GetFields.header c.args.fields.now).csrc_count (g.F.GetFields.header c.args.fields.now).csrc) c.put_csrc-end.ensures.in_range;
}) (IsExtensionPart-none c.args.ids.now (g.F.GetFields.header c.args.fields.now).has_extension (g.V.ElementValues.values c.args.values.now) (sym c.in_default.is ∙ c.requires.form))

-- with one the block in it is put, and there is room for it
room : (exts : Slots) (h : RtpHeader) (form : ExtensionsForm) (fixed : List ℕ) (first second len : ℕ) → h.csrc_count ≤ length h.csrc → Some form ≡ announced_form exts h.has_extension h.ext_vals
    → length (wire_bytes exts h) ≤ len → fixed ≡ fixed_bytes h → first ≡ 0 + length fixed → second ≡ first + 4 * length (take h.csrc_count h.csrc)
    → second + length (block_bytes_in form exts h.ext_vals) ≤ len
room exts h form fixed first second len within is fits fixed-is first-is second-is =
    omega (
      arith,
      fits,
      length-wire_bytes exts h within,
      ap length fixed-is,
      ap length (a_part exts h.has_extension h.ext_vals form is),
      first-is,
      second-is,
      length-take-le h.csrc_count h.csrc within,
    )

pub slice_bounds-write_block-count : goal.slice_bounds-write_block-count
slice_bounds-write_block-count g c =
    let there = room c.args.ids.now (with_values (g.F.GetFields.header c.args.fields.now)
    (g.V.ElementValues.values c.args.values.now)) c.in-Some.form c.fixed_bytes.result c.put-end.result c.put_csrc-end.result (length c.args.buf.now)
    (sources_within c.requires.sources c.fixed_bytes.ensures.slots)
    (sym c.in-Some.is ∙ c.requires.form) c.requires.room (fixed_with (g.F.GetFields.header c.args.fields.now) c.fixed_bytes.ensures.bytes c.fixed.ensures.has_extension) c.put-end.ensures.end c.put_csrc-end.ensures.end in omega (arith, there)

pub slice_bounds-write_block-start : goal.slice_bounds-write_block-start
slice_bounds-write_block-start g c =
    let there = room c.args.ids.now (with_values (g.F.GetFields.header c.args.fields.now)
    (g.V.ElementValues.values c.args.values.now)) c.in-Some.form c.fixed_bytes.result c.put-end.result c.put_csrc-end.result (length c.args.buf.now)
    (sources_within c.requires.sources c.fixed_bytes.ensures.slots)
    (sym c.in-Some.is ∙ c.requires.form) c.requires.room (fixed_with (g.F.GetFields.header c.args.fields.now) c.fixed_bytes.ensures.bytes c.fixed.ensures.has_extension) c.put-end.ensures.end c.put_csrc-end.ensures.end in omega (arith, there)

pub write_block-requires-clause-room : goal.write_block-requires-clause-room
write_block-requires-clause-room g c =
    let there = room c.args.ids.now (with_values (g.F.GetFields.header c.args.fields.now)
    (g.V.ElementValues.values c.args.values.now)) c.in-Some.form c.fixed_bytes.result c.put-end.result c.put_csrc-end.result (length c.args.buf.now)
    (sources_within c.requires.sources c.fixed_bytes.ensures.slots)
    (sym c.in-Some.is ∙ c.requires.form) c.requires.room (fixed_with (g.F.GetFields.header c.args.fields.now) c.fixed_bytes.ensures.bytes c.fixed.ensures.has_extension) c.put-end.ensures.end c.put_csrc-end.ensures.end in omega (arith, there)

-- what was put, and where it ends
all_put : (g : _) (c : goal.After-slice_known-4-1 g) (put : List ℕ)
    → put ≡ overwritten c.put_csrc-end.new.buf c.put_csrc-end.result (block_bytes_in c.in-Some.form c.args.ids.now (g.V.ElementValues.values c.args.values.now))
    → (c.put_csrc-end.result + c.write_block.result ≡ length (wire_bytes c.args.ids.now (with_values (g.F.GetFields.header c.args.fields.now) (g.V.ElementValues.values c.args.values.now))))
    × (put ≡ wire_bytes c.args.ids.now (with_values (g.F.GetFields.header c.args.fields.now)
    (g.V.ElementValues.values c.args.values.now)) ++ drop (c.put_csrc-end.result + c.write_block.result) c.args.buf.now)
all_put g c put is =
    wire_bytes-from_pieces (with_values (g.F.GetFields.header c.args.fields.now)
    (g.V.ElementValues.values c.args.values.now)) c.args.ids.now c.args.buf.now c.put-end.new.buf c.put_csrc-end.new.buf put
    c.fixed_bytes.result c.put-end.result c.put_csrc-end.result (c.put_csrc-end.result + c.write_block.result)
    (sources_within c.requires.sources c.fixed_bytes.ensures.slots) c.requires.room
    (fixed_with (g.F.GetFields.header c.args.fields.now) c.fixed_bytes.ensures.bytes c.fixed.ensures.has_extension)
    c.put-end.ensures.written c.put-end.ensures.end c.put_csrc-end.ensures.written c.put_csrc-end.ensures.end
    (is ∙ ap (overwritten c.put_csrc-end.new.buf c.put_csrc-end.result) (sym (a_part c.args.ids.now (g.F.GetFields.header c.args.fields.now).has_extension
    (g.V.ElementValues.values c.args.values.now) c.in-Some.form (sym c.in-Some.is ∙ c.requires.form))))
    (omega (
      arith,
      c.write_block.ensures.length,
      ap length (a_part c.args.ids.now (g.F.GetFields.header c.args.fields.now).has_extension
          (g.V.ElementValues.values c.args.values.now) c.in-Some.form (sym c.in-Some.is ∙ c.requires.form)),
    ))

pub returns-clause-written : goal.returns-clause-written
returns-clause-written g c =
    let buf = c.put_csrc-end.new.buf in
    let at = c.put_csrc-end.result in
    let bytes = block_bytes_in c.in-Some.form c.args.ids.now (g.V.ElementValues.values c.args.values.now) in
    let fits = room c.args.ids.now (with_values (g.F.GetFields.header c.args.fields.now)
    (g.V.ElementValues.values c.args.values.now)) c.in-Some.form c.fixed_bytes.result c.put-end.result c.put_csrc-end.result (length c.args.buf.now)
    (sources_within c.requires.sources c.fixed_bytes.ensures.slots)
    (sym c.in-Some.is ∙ c.requires.form) c.requires.room (fixed_with (g.F.GetFields.header c.args.fields.now) c.fixed_bytes.ensures.bytes c.fixed.ensures.has_extension) c.put-end.ensures.end c.put_csrc-end.ensures.end in
    let there : at + length bytes ≤ length buf = omega (arith, fits) in
    (all_put g c _ (overwritten-rest buf c.write_block.new.buf bytes at there
    (c.write_block.ensures.written ∙ ap (λ (k : ℕ). bytes ++ drop k (take (length buf - at) (drop at buf))) c.write_block.ensures.length))).1

pub returns-clause-length : goal.returns-clause-length
returns-clause-length g c = (all_put g c _ refl).0

pub returns-clause-few : goal.returns-clause-few
returns-clause-few g c = rw (ap length (a_part c.args.ids.now (g.F.GetFields.header c.args.fields.now).has_extension (g.V.ElementValues.values c.args.values.now) c.in-Some.form (sym c.in-Some.is ∙ c.requires.form)) ∙ sym c.write_block.ensures.length) c.write_block.ensures.few

pub returns-clause-read_back : goal.returns-clause-read_back
returns-clause-read_back g c rest = IsWire-written (with_values (g.F.GetFields.header c.args.fields.now) (g.V.ElementValues.values c.args.values.now)) c.args.ids.now rest (record {
  payload_type = c.requires.payload_type;
  count = c.requires.sources;
  slots = c.fixed_bytes.ensures.slots;
  number = c.fixed_bytes.ensures.number;
  timestamp = c.fixed_bytes.ensures.timestamp;
  ssrc = c.fixed_bytes.ensures.ssrc;
  sources = AllByRecursion-from_each (take (g.F.GetFields.header c.args.fields.now).csrc_count (g.F.GetFields.header c.args.fields.now).csrc) c.put_csrc-end.ensures.in_range;
}) (IsExtensionPart-some c.args.ids.now (g.F.GetFields.header c.args.fields.now).has_extension (g.V.ElementValues.values c.args.values.now) c.in-Some.form (sym c.in-Some.is ∙ c.requires.form)
    c.write_block.ensures.read_back)
