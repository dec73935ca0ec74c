-- The names that most proofs cite, passed on from one place. Declares nothing.
pub use Rattle.std.proofs.Common.{◌≡◌, ◌≢◌, ℕ, ◌+◌, ◌-◌, ◌≤◌, Bool, true, false, not, cond, List, [], ◌∷◌, ◌++◌, length, take, drop, replicate, Option, Some, None, length-take-le, arith, refl, sym, ap, ◌∙◌, subst, inl, inr, ◌⊎◌, IfSome, IfNone, append_assoc, length-append, length-drop, zero, suc, ◌<◌, get_or, set, map, All, ◌/◌, ◌%◌, ◌^◌, le-ltb, lt-ltb, add-one, take-append-drop, ◌*◌, nat_eq, w8, ◌↔◌, IsTrue, Result, Ok, Err, IsOk, IfOk, ◌==◌, ⊎_elim, nat_le, neg_ℤ, pos, IsSomeAnd, Bor, OnOk, OnErr, rules, slice_index_or, eqb, ltb, is_none, slice_set}
pub use Rattle.std.proofs.Math.ListN.{get_or-map}
pub use Rattle.std.proofs.Math.Seq.{drop-cons, take-set-lt, drop-append_seam}
pub use Rattle.std.proofs.lemmas.Bool.{ne_eqb, cases_eq, cases_lt, le-leb, lt-leb, or_parts, and_parts, eqb-true, eq-eqb, false≢true, leb-true, true≢false, ltb-false}
pub use Rattle.std.proofs.lemmas.Bool.Decides.{nat_tests, eqb_tells}
pub use Rattle.std.proofs.lemmas.Iterator.Consumers.{YieldsList-from_first, YieldsList-end}
pub use Rattle.std.proofs.lemmas.List.{append-nil, take-take, drop-take, length-replicate, drop_all, take_at, drop_at, take-append-le, length-set, get_or-set_same, get_or-set_other, get_or_past, get_or_default, same_lists, nil_from_length, replicate-append-replicate, take_rest, drop-drop, drop-append-le, map-set, length-map, set_split, drop-replicate, drop-set-lt, drop_more, drop-set, take-set, take_all, map-append, get_or-take, get_or-drop}
pub use Rattle.std.proofs.lemmas.List.Concat.{flat_map-append}
pub use Rattle.std.proofs.lemmas.List.Edits.{swap_is, take-paste, drop-paste, length-paste}
pub use Rattle.std.proofs.lemmas.List.Elements.{filter-append, All-nil, All-cons, All-from_recursion, recursion_from_All, All-head, All-tail, All-weaker, All-append, All-push, All-contains, Contains-append_right, Contains-append_left, filter_map-append, All-same}
pub use Rattle.std.proofs.lemmas.Option.{slice_get_within, get_or_from_slice_get, same_Some, IfSome_then}
pub use Rattle.std.specs.Bool.{OnTrue, Decides}
pub use Rattle.std.specs.Fmt.{HasWritten, IsPlainFormatter}
pub use Rattle.std.specs.Int.{w128, byte_worth, from_le_bytes, sum_through, from_bool, rotate_left}
pub use Rattle.std.specs.List.{AllByRecursion, filter_map, Contains, IsFirstAndRest, flat_map, swap, IsSplitAt, list_any, cons_option, filter, copy_within, list_all}
pub use Rattle.std.specs.Option.{is_some, option_map, option_eq, unwrap_or, option_copied}
pub use Rattle.std.specs.Prelude.{slice_range, if◌then◌else◌, ◌||◌, ◌&&◌, nat_lt, slice_get, SomeIff, Any, codes, IsSome}
pub use Rattle.std.specs.declared.alloc.AllocError.{AllocError}
pub use borrow.Rule.Slice.PartMut.{put_mid}
pub use denote.Enum.Bare.{sameb, same_true, same_false}
pub use lib.Seq.{paste}
pub use Rattle.rtp_base.proofs.OverwritingLemmas.{overwritten-overwritten, overwritten-nil, overwritten-front, length-overwritten, overwritten-before, overwritten-rest, overwritten-set, overwritten-set_two}
pub use Rattle.rtp_base.specs.Overwriting.{overwritten}
pub use Rattle.rtp_values.proofs.FieldLemmas.{Reads-same, SameFields-refl, SameFields-trans, SameFields-others, SameFields-sym, SameFields-taken, same_values, Reads-one, SameFields-joined}
pub use Rattle.rtp_values.proofs.KindLemmas.{one_kind, same_or_not}
pub use Rattle.rtp_values.specs.Kind.{IsKnown}
pub use Rattle.rtp_values.specs.KindBytes.{ReadsInto}
pub use Rattle.rtp_values.specs.KnownKind.{extension_of_kind}
pub use Rattle.rtp_values.specs.Spelling.{has_no_data, spelled_data, longest, has_empty_text, carried_values}
pub use Rattle.rtp_values.specs.Values.{IsWellFormed, with_fields, no_values, Reads, SameFields}
pub use Rattle.rtp_values.specs.contracts.known_kind.KnownKind.{the_type}
pub use Rattle.rtp_values.specs.declared.kind.Extension.{Extension}
pub use Rattle.rtp_values.specs.declared.kind.Extension.TheVariants.{UnknownUri, VideoLayersAllocation, AudioLevel, ColorSpace, AbsoluteSendTime, AbsoluteCaptureTime, TransmissionTimeOffset, VideoOrientation, TransportSequenceNumber, PlayoutDelay, VideoContentType, VideoTiming, RtpStreamId, RepairedRtpStreamId, RtpMid, FrameMarking}
pub use Rattle.rtp_values.specs.declared.known_kind.KnownKind.{KnownKind}
pub use Rattle.rtp_values.specs.declared.value.values.ExtensionValues.{ExtensionValues}
pub use Rattle.rtp_vla.specs.Allocation.{Allocation, Means}
pub use Rattle.rtp_ext.specs.BlockValues.{Carries, AreFields, last, none, AreValues, ReadElements, SaysValues}
pub use Rattle.rtp_ext.specs.BodySurvey.{goes, others, other_form, start_around, end_around, StandInRows, HasRows, HasRowsFor, IsSurvey, IsGathered, IsGatheredTo, IsSurveyedTo, IsRowFor, ChangesRow, ChangesRowTo}
pub use Rattle.rtp_ext.specs.ElementPlaces.{LiesLast, AreWhole, IsNextPlace, LiesAt, IsLastPlace, IsLastOrNone, IsPassed, IsLeft}
pub use Rattle.rtp_ext.specs.ElementReading.{BeginsWithNoElement, BeginsWithElement, elements_left, without_padding}
pub use Rattle.rtp_ext.specs.ElementWriting.{CanCarry, items_bytes, element_header, element_or_nothing, IsCarried}
pub use Rattle.rtp_ext.specs.Elements.{Element, IsElement, IsPiece, element_bytes, elements_bytes, AreElements, ended, piece_bytes, IsTail, cut_short, stopped}
pub use Rattle.rtp_ext.specs.ElementsInARow.{IsWritable, AreWritableIn, IsUnwritable, AreNotWritableIn, unwritable, short_room, serves_one_byte, form_for, form_given}
pub use Rattle.rtp_ext.specs.ElementsInPlace.{HasNone, HasLast, SetsLast, CanRenumber, bytes_under, renumbered}
pub use Rattle.rtp_ext.specs.ExtensionMap.{Entry, Slots, IsEmpty, IsId, ListsItems, Sets, entry_at, extension_at, extension_of, is_of_medium, of_medium, unlocked, items_from, mapped_count, IsLocked, IsUnlocked, IsRising, HasNoIdAbove, Exchanges, IsRenumbered, IsLockedAt, locked, IsLowest, Remaps, AreRemapped, same_slot, moved, HasNoText, IsUnmapped, IsOnlyId, item_text, items_text, locked_elsewhere}
pub use Rattle.rtp_ext.specs.IdChanges.{carries_id, ids_of, HasOtherIds, HasOtherIdsTo}
pub use Rattle.rtp_ext.specs.KindsById.{entry_of_kind, slots_of, is_layers, layers_count, known_alone, known_entry, known_slots, is_long_item, has_long_data, has_empty}
pub use Rattle.rtp_ext.specs.LastAllocation.{IsLastAllocation, last_is, none_is, EndsRow, EndsBefore, IsPastRow, IsReadTo, IsReadPastRow}
pub use Rattle.rtp_ext.specs.MapSlots.{IsMapped, IsLastId, Puts, Swaps, first_id, next_id, next_ids}
pub use Rattle.rtp_ext.specs.Memory.{IsAllocation, HasAllocation, ReadUntilRefused, IsStopped}
pub use Rattle.rtp_ext.specs.NewIds.{IsNewId, id_in_byte, byte_of_id, AreNewBytes, new_id, AreNewIds, CarriesExtensions, ids_in_bytes, IsRenamedId, AreRenamedIds, Renames}
pub use Rattle.rtp_ext.specs.PutElement.{has_id, without, put_among, put_element, rewritten_elements, row_to, IsSole}
pub use Rattle.rtp_ext.specs.WrittenBlock.{needs_two, form_of, written_elements, image_values, fields_of_items, mapped_fields, TakesAtMost17Each, HasFewData}
pub use Rattle.rtp_ext.specs.declared.form.ExtensionsForm.{ExtensionsForm}
pub use Rattle.rtp_ext.specs.declared.form.ExtensionsForm.TheVariants.{OneByte, TwoByte}
pub use Rattle.rtp_ext.specs.declared.place.Place.{Place}
pub use Rattle.rtp_ext.specs.declared.survey.Survey.{Survey}
