use Rattle.std.proofs.Common.{◌≡◌, ℤ, Option, Some, subst, rules, w64, to_z, of_z, FitsSigned, ◌-◌, length, take, drop, refl, ap, ◌∙◌, arith, length-drop, sym}
use Rattle.std.proofs.lemmas.Int.{to_z-of_z}
use Rattle.std.proofs.lemmas.List.{take_rest}
use Rattle.rtp_base.specs.Overwriting.{overwritten}
use Rattle.rtp_base.proofs.OverwritingLemmas.{overwritten-front, overwritten-rest, overwritten-overwritten}
use Rattle.rtp_values.specs.Values.{offset_of}
use Rattle.rtp_values.specs.Spelling.{bytes_of_number, offset_bytes}
use Rattle.rtp_values.proofs.ValueLemmas.{room_of, spelled-capture, AreData-capture, WritesData-put}
use Rattle.rtp_values.proofs.value.abs_capture_time.write.Goals as goal

pub put_u64-requires : goal.put_u64-requires
put_u64-requires g c = record { room = room_of (spelled-capture (g.V.GetValues.values c.args.ev.now) (sym c.capture_time.ensures ∙ c.in_ok-time.was) c.in_default.is) (omega arith) c.args.buf.now c.requires.room }

pub returns-in_default : goal.returns-in_default
returns-in_default g c =
    WritesData-put (AreData-capture (g.V.GetValues.values c.args.ev.now) (sym c.capture_time.ensures ∙ c.in_ok-time.was) c.in_default.is c.put_u64.ensures.back refl) c.put_u64.ensures.length c.put_u64.ensures.written

pub put_u64-requires-2 : goal.put_u64-requires-2
put_u64-requires-2 g c = record { room = omega (arith, room_of (spelled-capture (g.V.GetValues.values c.args.ev.now) (sym c.capture_time.ensures ∙ c.in_ok-time.was) c.in-Some.is) (omega arith) c.args.buf.now c.requires.room) }

pub slice_bounds-put_offset-count : goal.slice_bounds-put_offset-count
slice_bounds-put_offset-count g c = omega (arith, c.put_u64-2.auto.buf, room_of (spelled-capture (g.V.GetValues.values c.args.ev.now) (sym c.capture_time.ensures ∙ c.in_ok-time.was) c.in-Some.is) (omega arith) c.args.buf.now c.requires.room)

pub slice_bounds-put_offset-start : goal.slice_bounds-put_offset-start
slice_bounds-put_offset-start g c = omega (arith, c.put_u64-2.auto.buf, room_of (spelled-capture (g.V.GetValues.values c.args.ev.now) (sym c.capture_time.ensures ∙ c.in_ok-time.was) c.in-Some.is) (omega arith) c.args.buf.now c.requires.room)

pub put_offset-requires : goal.put_offset-requires
put_offset-requires g c =
    let all = room_of (spelled-capture (g.V.GetValues.values c.args.ev.now) (sym c.capture_time.ensures ∙ c.in_ok-time.was) c.in-Some.is) (omega arith) c.args.buf.now c.requires.room in
    record { room = rw take_rest (omega (arith, length-drop 8 c.put_u64-2.new.buf, all, c.put_u64-2.auto.buf)) }

-- the clock offset as it is passed
offset_is : (offset : ℤ) → FitsSigned w64 offset → Some (to_z w64 (of_z w64 offset)) ≡ Some offset
offset_is offset fits = ap Some (to_z-of_z w64 offset fits)

pub returns : goal.returns
returns g c =
    let time = c.in_ok-time.time in
    let offset = c.in-Some.offset in
    let fits : FitsSigned w64 offset = search rules in
    let same = offset_is offset fits in
    let rest = take (length c.put_u64-2.new.buf - 8) (drop 8 c.put_u64-2.new.buf) in
    let back = subst (λ (o : Option ℤ). offset_of (offset_bytes o) ≡ o) same c.put_offset.ensures.back in
    let bytes = offset_bytes (Some offset) in
    let all = room_of (spelled-capture (g.V.GetValues.values c.args.ev.now) (sym c.capture_time.ensures ∙ c.in_ok-time.was) c.in-Some.is) (omega arith) c.args.buf.now c.requires.room in
    let put = c.put_offset.ensures.written ∙ (ap (λ (o : Option ℤ). overwritten rest 0 (offset_bytes o)) same ∙ overwritten-front rest bytes) in
    WritesData-put (AreData-capture (g.V.GetValues.values c.args.ev.now) (sym c.capture_time.ensures ∙ c.in_ok-time.was) c.in-Some.is c.put_u64-2.ensures.back back) refl
    (overwritten-rest c.put_u64-2.new.buf c.put_offset.new.buf bytes 8 (omega (arith, c.put_u64-2.auto.buf, all)) put
    ∙ (ap (λ buf. overwritten buf 8 bytes) c.put_u64-2.ensures.written ∙ overwritten-overwritten c.args.buf.now (bytes_of_number 8 time.capture_time) bytes 0 8 refl (omega (arith, all))))
