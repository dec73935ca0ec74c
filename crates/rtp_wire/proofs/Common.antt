-- The names that most proofs cite, passed on from one place. Declares nothing.
pub use Rattle.std.proofs.Common.{◌≡◌, ℕ, zero, suc, ◌+◌, ◌-◌, ◌*◌, ◌/◌, ◌%◌, ◌<◌, ◌≤◌, true, List, [], ◌∷◌, ◌++◌, length, take, drop, inl, inr, refl, sym, ap, subst, ◌∙◌, arith, append_assoc, length-append, length-take-le, take_at, drop_at, replicate, Bool, false, Option, Some, None, IfSome, not, ◌&&◌, add-zero, max, set, get_or, bit_or, length-take, length-drop, cond, ◌^◌, nat_eq, bit_and, map, take-add, ◌⊎◌, ◌↔◌, min, eqb, rules, Result, Ok, Err, OnOk, OnErr, IsTrue, ◌≢◌, All, vec_capacity}
pub use Rattle.std.proofs.Math.Nat.{zero-mul, one-mul, mul-le-mul_right, suc-mul}
pub use Rattle.std.proofs.Math.Seq.{take-append-add}
pub use Rattle.std.proofs.lemmas.Bool.{cases_lt, ne_eqb, eq-eqb, false≢true, cases_eq, le-leb, lt-leb, OnTrue_at, OnTrue_from, OnFalse_at, OnFalse_from}
pub use Rattle.std.proofs.lemmas.List.{length-replicate, get_or-drop, length-map, get_or-take, get_or_past, drop-take, take-take, drop-drop, take-append-le, take-append-drop, take_all, take-replicate, append-nil, take_more, drop_more, set_at, map_more, drop-append-le, take_rest, drop_all, get_or-map, length_push}
pub use Rattle.std.proofs.lemmas.Nat.{or_shr, or_mod, from_be_bytes-to_be_bytes_2, pow_pos, from_be_bytes-to_be_bytes_4, and_mask, div-add-mod', and_le_r, or_disjoint}
pub use Rattle.std.proofs.lemmas.Nat.Bits.{bit_at_or, and_pow, bit_at-lt}
pub use Rattle.std.proofs.lemmas.Option.{none-some, same_Some, get_or_from_slice_get}
pub use Rattle.std.proofs.lemmas.Result.{err_from_is_err_and, on_ok_weaker, on_err_weaker}
pub use Rattle.std.proofs.lemmas.Slice.{take-put_mid_below, drop-put_mid, between-put_mid}
pub use Rattle.std.specs.Global.{Vec}
pub use Rattle.std.specs.Int.{w16, w32, from_be_bytes, to_be_bytes}
pub use Rattle.std.specs.List.{concat, AllByRecursion, flat_map, copy_within, AllZip, filter_map}
pub use Rattle.std.specs.Option.{IfNone}
pub use Rattle.std.specs.Prelude.{slice_index, is_some, slice_range, option_map, if◌then◌else◌, IsSome}
pub use Rattle.std.specs.Simd.{first_chunks}
pub use borrow.Rule.Slice.PartMut.{put_mid, mid_of}
pub use lib.Seq.{paste}
pub use Rattle.rtp_base.proofs.OverwritingLemmas.{overwritten-overwritten, overwritten-before, overwritten-front, overwritten-rest, length-overwritten, overwritten-set, overwritten-three, overwritten-nil}
pub use Rattle.rtp_base.specs.Flag.{bit}
pub use Rattle.rtp_base.specs.Overwriting.{overwritten}
pub use Rattle.rtp_ext.proofs.AnewLemmas.{AreElements-each, without-each, sole-no_zero}
pub use Rattle.rtp_ext.proofs.ElementLemmasOfBodies.{AreElements-only, AreBytes, AreElements-found}
pub use Rattle.rtp_ext.proofs.MemoryLemmas.{OnErr-from}
pub use Rattle.rtp_ext.proofs.ValuesLaws.{one_values, AreValues-none, ReadElements-itself, ReadUntilRefused-itself}
pub use Rattle.rtp_ext.specs.BlockValues.{AreValues, SaysValues}
pub use Rattle.rtp_ext.specs.BodySurvey.{IsCompacted, IsSurvey}
pub use Rattle.rtp_ext.specs.Elements.{AreElements, elements_bytes, Element, IsElement, element_bytes, piece_bytes, ended}
pub use Rattle.rtp_ext.specs.ElementsInPlace.{SetsLast, HasNone, ChangesIds, renumbered, all_but, CanRenumber}
pub use Rattle.rtp_ext.specs.ExtensionMap.{Slots, mapped_count, HasNoIdAbove}
pub use Rattle.rtp_ext.specs.Form.{IsFormWord, form_word}
pub use Rattle.rtp_ext.specs.NewIds.{new_id}
pub use Rattle.rtp_ext.specs.PutElement.{without, row_to, put_element, IsSole, needed_form, allowed_form}
pub use Rattle.rtp_ext.specs.WrittenBlock.{written_elements, padding_of, filled, block_of, image_values, whole_words, mapped_fields}
pub use Rattle.rtp_ext.specs.declared.form.ExtensionsForm.{ExtensionsForm}
pub use Rattle.rtp_ext.specs.declared.form.ExtensionsForm.TheVariants.{OneByte, TwoByte}
pub use Rattle.rtp_ext.specs.declared.map.ExtensionMap.{ExtensionMap}
pub use Rattle.rtp_receive.proofs.SourceLemmas.{SoFarEach, AllZip-at_source, SoFarEach-none, SoFarEach-more}
pub use Rattle.rtp_receive.proofs.TrueNumberLemmas.{AreTrueVerdicts-run}
pub use Rattle.rtp_receive.proofs.VerdictLemmas.{SoFar, TakesOnce-run, SoFar-none, SoFar-more}
pub use Rattle.rtp_receive.specs.Sources.{at_source, taken_of}
pub use Rattle.rtp_receive.specs.TrueNumbers.{AreTrueNumbers, AreTrueVerdicts}
pub use Rattle.rtp_receive.specs.Verdicts.{PacketId, IsRun, taken_by}
pub use Rattle.rtp_receive.specs.declared.receiver.Verdict.{Verdict}
pub use Rattle.rtp_values.specs.Values.{no_values}
pub use Rattle.rtp_values.specs.declared.value.values.ExtensionValues.{ExtensionValues}
pub use Rattle.rtp_wire.specs.Block.{word_at, IsBlock, IsNoFormWord}
pub use Rattle.rtp_wire.specs.ChangedPacket.{ChangesOnly, ChangesBlock, ChangesOnlyBody, HasUnpadded}
pub use Rattle.rtp_wire.specs.GivenFields.{LieBetween, with_header_fields}
pub use Rattle.rtp_wire.specs.GrowingPacket.{with_extension_bit, resized}
pub use Rattle.rtp_wire.specs.Header.{IsExtensionPart, header_of, IsHeaderOf, IsWire, default_header}
pub use Rattle.rtp_wire.specs.InPlace.{RemovesElement, RemovesPadding, RenumbersElements, SetsElement, SetsFields}
pub use Rattle.rtp_wire.specs.NotAHeader.{sources_end, HasNoHeader, IsNoPacket, cut_fixed, other_version, cut_sources, cut_block, cut_words, HasUnknownForm, no_packet, unknown_form, cut_header}
pub use Rattle.rtp_wire.specs.NotAPacket.{place_of, IsFirstCause, AppliesToBlock, Applies, IsFirstOf}
pub use Rattle.rtp_wire.specs.OriginalNumber.{HasOriginalNumber}
pub use Rattle.rtp_wire.specs.Packet.{PacketParts, IsPacket, IsFirstByte, IsFixedPart, IsAnnouncedBlock, header_len_of, block_len, IsSecondByte, IsAnnounced, HasOtherForm, IsWithoutPadding}
pub use Rattle.rtp_wire.specs.PacketElements.{AreElementsOf, HasValues}
pub use Rattle.rtp_wire.specs.PacketIds.{packet_id_of, IsPacketId, ArePacketIds, packet_id_in}
pub use Rattle.rtp_wire.specs.Padding.{padding_bytes, with_padding_bit, IsPaddingLength, padding_count, IsInBlocks, IsUnpadded}
pub use Rattle.rtp_wire.specs.PartsAt.{is_set, form_in, header_end, parts_at, form_of_word, HasLayout}
pub use Rattle.rtp_wire.specs.PartsOf.{parts_of, parts_in}
pub use Rattle.rtp_wire.specs.PutIntoPacket.{form_of_block, body_of_block, compact_block, Compacts, IsGrowth, PutsElement, in_place, elements_with}
pub use Rattle.rtp_wire.specs.RefusedMemory.{BlockHasAllocation, AreValuesStopped}
pub use Rattle.rtp_wire.specs.Retransmission.{KeepsBlockHeader, IsPacketWith, HasLongPadding, HasPayload, HasHighId, KeepsFromSending, KeepsFromRestoring, IsBlockUnder, IsRetransmissionOf, IsOriginalOf, IsRestored, Becomes, Sends, Restores}
pub use Rattle.rtp_wire.specs.RetransmissionParts.{IsLaidOut, HasNoLayout, IsChangedHeader}
pub use Rattle.rtp_wire.specs.RewrittenBlock.{IsFormOfBody, IsPlan}
pub use Rattle.rtp_wire.specs.Runs.{AreVerdicts, AreVerdictsBySource}
pub use Rattle.rtp_wire.specs.Sending.{IsOfSource, packet_ids_of, AreSent, Arrives}
pub use Rattle.rtp_wire.specs.Written.{fixed_bytes, source_bytes, header_bytes, extension_bytes, wire_bytes, carried_image, with_values, image_of}
pub use Rattle.rtp_wire.specs.WrittenInForm.{block_bytes_in, announced_form}
pub use Rattle.rtp_wire.specs.declared.header.rtp_header.RtpHeader.{RtpHeader}
pub use Rattle.rtp_wire.specs.declared.packet.fields.Fields.{Fields}
pub use Rattle.rtp_wire.specs.declared.packet.not_a_packet.NotAPacket.{NotAPacket}
pub use Rattle.rtp_wire.specs.declared.packet.not_a_packet.NotAPacket.TheVariants.{CutFixedPart, OtherVersion, CutSources, CutBlockHeader, CutBlock}
pub use Rattle.rtp_wire.specs.declared.packet.not_retransmitted.NotRetransmitted.TheVariants.{CutPacket, PaddingTooLong, NoOriginalNumber, NewIdTooHigh, NoRoom}
pub use Rattle.rtp_wire.specs.declared.packet.retransmission.Layout.{Layout}
pub use Rattle.rtp_wire.specs.declared.packet.rtp_packet.RtpPacket.{RtpPacket}
pub use Rattle.rtp_wire.specs.declared.packet.rtp_packet_mut.RtpPacketMut.{RtpPacketMut}
