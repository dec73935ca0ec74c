-- The names that most proofs cite, passed on from one place. Declares nothing.
pub use Rattle.std.proofs.Common.{◌≡◌, ℕ, ◌<◌, List, Bool, Option, None, ℤ, w32, to_z, of_z, ap, ◌∙◌, subst, [], ◌++◌, length, drop, Some, IfSome, refl, sym, arith, ◌-◌, ◌≤◌, ◌∷◌, take, replicate, append_assoc, length-append, length-take-le, drop_at, ◌+◌, ◌*◌, ◌^◌, ◌/◌, zero, suc, get_or, inl, inr, map, All, true, set, add-zero, ◌%◌, ◌≢◌, ◌&&◌, nat_eq, false, le-ltb, ◌||◌, length-set, ◌⊎◌, append-nil, take_at, ◌↔◌, IsTrue, lt-ltb, lt_of_not-le, rules, FitsSigned, Bor, IfNone, cond, pos, unsigned_abs, Result, Ok, Err, IsOk, OnOk, true≢false}
pub use Rattle.std.proofs.Math.ListN.{get_or-map}
pub use Rattle.std.proofs.lemmas.Bool.{cases_lt, false≢true, and_parts, leb-true, eqb-true, ne_eqb, ltb-false, or_parts, true_from_ne_false, cases_eq, eq-eqb, or_left, or_right, OnTrue_from, OnTrue_at}
pub use Rattle.std.proofs.lemmas.Int.{to_z-of_z}
pub use Rattle.std.proofs.lemmas.List.{take-append-drop, length-replicate, get_or-drop, get_or_past, get_or-take, length-drop, length-take, take_more, take_more_set, drop-set-lt, drop-drop, take_all, get_or-set_same, get_or-set_other, length-map, drop_all, drop_more, set-append_right, drop-replicate}
pub use Rattle.std.proofs.lemmas.List.Elements.{recursion_from_All, All-from_recursion, AllZip-push}
pub use Rattle.std.proofs.lemmas.List.FromFn.{get_or-map-range_with_len}
pub use Rattle.std.proofs.lemmas.Nat.{leading_length, pow-add, le_or_l, le_or_r, leading_le}
pub use Rattle.std.specs.Int.{w64, byte_worth, from_le_bytes, sum_through, leading_zeros, bit_at}
pub use Rattle.std.specs.List.{AllZip, AllByRecursion, list_any, concat, range_with_len}
pub use Rattle.std.specs.Option.{option_map, unwrap_or, MatchOption}
pub use Rattle.std.specs.Prelude.{slice_index, is_some, nat_le, nat_lt, if◌then◌else◌}
pub use Rattle.std.specs.Str.{IsUtf8, IsAscii}
pub use Rattle.rtp_base.proofs.WindowLemmas.{AcceptsOf-low, KeepsOf-first, KeepsOf-shown, Keeps-shown}
pub use Rattle.rtp_base.specs.Ring.{ring_bits, ring_bit, ring_size}
pub use Rattle.rtp_base.specs.Window.{Numbers, IsGreatest, WindowState, including, Keeps, KeepsOf, AcceptsOf, only}
pub use Rattle.rtp_ext.proofs.ElementLemmasOfBodies.{AreElements-found}
pub use Rattle.rtp_ext.proofs.ListingLemmas.{items_from-empty, length-items_from, ListsItems-from_slots}
pub use Rattle.rtp_ext.proofs.RenamesLemmas.{IsRenamedTo-first, IsRenamedTo-next, Renames-end, IsRenamedTo}
pub use Rattle.rtp_ext.specs.ElementPlaces.{IsNextPlace, IsLastPlace, WritesLast}
pub use Rattle.rtp_ext.specs.ElementReading.{elements_left}
pub use Rattle.rtp_ext.specs.Elements.{IsElement, element_bytes, AreElements, Element}
pub use Rattle.rtp_ext.specs.ElementsInARow.{IsWritable, AreWritableIn}
pub use Rattle.rtp_ext.specs.ElementsInPlace.{ChangesIds, all_but, SetsLast, CanRenumber}
pub use Rattle.rtp_ext.specs.ExtensionMap.{Entry, Slots, items_from, extension_at, IsLowest, IsUnmapped, extension_of, ListsItems, standard_items}
pub use Rattle.rtp_ext.specs.KindsById.{entry_of_kind, is_long_item, slots_of}
pub use Rattle.rtp_ext.specs.NewIds.{IsNewId, CarriesExtensions, new_id, id_in_byte, ids_in_bytes, AreRenamedIds}
pub use Rattle.rtp_ext.specs.declared.form.ExtensionsForm.{ExtensionsForm}
pub use Rattle.rtp_receive.specs.Receiver.{IsNumberOf, IsNothing, Holds, IsFresh, StaysBelowZeroIn, IsFreshOf}
pub use Rattle.rtp_receive.specs.Restarting.{Bounds, IsRestartingVerdict, epoch_after}
pub use Rattle.rtp_receive.specs.StreamState.{ReceiverState}
pub use Rattle.rtp_values.proofs.KindLemmas.{one_kind}
pub use Rattle.rtp_values.specs.KnownKind.{extension_of_kind}
pub use Rattle.rtp_values.specs.Spelling.{spelled_data, carried_values, longest}
pub use Rattle.rtp_values.specs.Values.{Reads, no_values}
pub use Rattle.rtp_values.specs.declared.kind.Extension.{Extension}
pub use Rattle.rtp_values.specs.declared.known_kind.KnownKind.{KnownKind}
pub use Rattle.rtp_values.specs.declared.known_kind.KnownKind.TheVariants.{AbsoluteSendTime, AbsoluteCaptureTime, AudioLevel, TransmissionTimeOffset, VideoOrientation, TransportSequenceNumber, PlayoutDelay, VideoContentType, VideoTiming, RtpStreamId, RepairedRtpStreamId, RtpMid, FrameMarking, ColorSpace, VideoLayersAllocation}
pub use Rattle.rtp_values.specs.declared.value.values.ExtensionValues.{ExtensionValues}
pub use Rattle.rtp_wire.proofs.NoHeaderLemmas.{IsFirstHeaderCause-other_form, header_there}
pub use Rattle.rtp_wire.proofs.NotAPacketLemmas.{IsNoPacket-applies, no_packet-refused}
pub use Rattle.rtp_wire.proofs.PacketLemmas.{one_packet}
pub use Rattle.rtp_wire.proofs.PartsLemmas.{length-packet, none_there}
pub use Rattle.rtp_wire.proofs.RetransmissionHeaders.{IsPacket-in}
pub use Rattle.rtp_wire.specs.ChangedPacket.{ChangesBlock, HasUnpadded}
pub use Rattle.rtp_wire.specs.GivenFields.{with_header_fields}
pub use Rattle.rtp_wire.specs.NotAHeader.{HasNoHeader, no_packet, unknown_form, IsNoPacket}
pub use Rattle.rtp_wire.specs.Packet.{PacketParts, IsPacket, IsAnnouncedBlock, block_len, header_len_of}
pub use Rattle.rtp_wire.specs.PacketElements.{AreElementsOf, HasValues}
pub use Rattle.rtp_wire.specs.PartsOf.{parts_in, parts_of, datagram_of}
pub use Rattle.rtp_wire.specs.Retransmission.{KeepsFromRestoring, KeepsFromSending}
pub use Rattle.rtp_wire.specs.declared.packet.fields.Fields.{Fields}
pub use Rattle.rtp_wire.specs.declared.packet.not_a_packet.NotAPacket.TheVariants.{CutFixedPart, OtherVersion, CutSources, CutBlockHeader, CutBlock}
pub use Rattle.rtp_wire.specs.declared.packet.not_put.NotPut.{NotPut}
pub use Rattle.rtp_wire.specs.declared.packet.not_retransmitted.NotRetransmitted.{NotRetransmitted}
pub use Rattle.rtp_wire.specs.declared.packet.rtp_packet_mut.RtpPacketMut.{RtpPacketMut}
pub use Rattle.rtp_c.specs.ChangedElements.{BecomesPacket}
pub use Rattle.rtp_c.specs.Datagrams.{IsDatagramRead, IsDatagramHeaderRead}
pub use Rattle.rtp_c.specs.Given.{AreGivenValues, IsGivenHeader}
pub use Rattle.rtp_c.specs.GivenLayers.{IsGivenLayer, IsGivenStream, IsGivenLayers, AreCarriedLayers, IsGivenWithLayers, HasFewLayers, layer_in, stream_in, allocation_in}
pub use Rattle.rtp_c.specs.KindNumbers.{IsNamed, IsKindNumbered, kind_numbered, numbered_kinds, kind_number}
pub use Rattle.rtp_c.specs.PacketView.{slice_at, body_of_any, form_number, IsViewOf, IsPacketRead}
pub use Rattle.rtp_c.specs.PutStatus.{put_status, IsPutStatus}
pub use Rattle.rtp_c.specs.Status.{ok, none, bad_field, cause_status, short_buffer, IsHeaderStatus}
pub use Rattle.rtp_c.specs.StoredMap.{numbered_slots, IsFirstNumber, Means, IsNumberAt, IsIdOf, IsLowestOf, AreNewIdsOf, CarryKinds, HasKinds, AreStandardNumbers, last_end}
pub use Rattle.rtp_c.specs.StoredReceiver.{HoldsNumbers, recorded_bits, IsWindowOf, IsStarted, stored_again, HasHalves, IsStored, bit_of, MovesBelowZero}
pub use Rattle.rtp_c.specs.StoredWindow.{HoldsWindow, HoldsStored, HasStarted}
pub use Rattle.rtp_c.specs.WrittenElements.{LieIn, elements_in, AreTooLong}
pub use Rattle.rtp_c.specs.declared.header.HeaderView.{HeaderView}
pub use Rattle.rtp_c.specs.declared.layers.Layer.{Layer}
pub use Rattle.rtp_c.specs.declared.layers.Layers.{Layers}
pub use Rattle.rtp_c.specs.declared.layers.Stream.{Stream}
pub use Rattle.rtp_c.specs.declared.packet.ElementView.{ElementView}
pub use Rattle.rtp_c.specs.declared.receiver.StoredReceiver.{StoredReceiver}
pub use Rattle.rtp_c.specs.declared.restarting.StoredRestarting.{StoredRestarting}
