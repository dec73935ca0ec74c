-- The names that most proofs cite, passed on from one place. Declares nothing.
pub use Rattle.std.proofs.Common.{◌≡◌, ◌≢◌, ℕ, zero, suc, ◌+◌, ◌*◌, ◌/◌, ◌%◌, ◌^◌, ◌<◌, ◌≤◌, ⊎_elim, List, [], ◌∷◌, ◌++◌, length, take, drop, map, Bool, true, false, cond, eqb, None, refl, sym, ap, ◌∙◌, subst, arith, length-append, ◌-◌, inl, inr, bit_and, get_or, Some, Option, ◌&&◌, ◌↔◌, ◌⊎◌, leb, append_assoc, not, ltb, ◌||◌, IfSome, IfNone, set, MatchOption, replicate, rules, nat_lt, IsTrue, ◌==◌, vec_len, vec_capacity}
pub use Rattle.std.proofs.Math.Nat.{pow-suc, pow-le-pow_right, mod-eq_of_lt}
pub use Rattle.std.proofs.lemmas.Bool.{cases_eq, eq-eqb, ne_eqb, false≢true, eqb-false, agree_below_at, and_parts, eqb-true, leb-true, and_from, le-leb, lt-ltb, ltb-true, cases_Bool, or_right, or_left, lt-leb, and_left, cases_lt, le-ltb, and_right, OnTrue_at}
pub use Rattle.std.proofs.lemmas.List.{drop_at, length-drop, length-take-le, length-map, take_all, append-nil, nil_from_length, take_more, take-append-le, take_more_set, drop-set-lt, length-set, drop_more, drop_all, take-append-drop, drop-drop, drop-replicate, get_or_past, take_rest, map-append, get_or_read, take_at}
pub use Rattle.std.proofs.lemmas.List.Folds.{list_all_more, list_all_at}
pub use Rattle.std.proofs.lemmas.Nat.{and_mask, mul-le}
pub use Rattle.std.proofs.lemmas.Option.{slice_get_within, get_or_from_slice_get}
pub use Rattle.std.specs.List.{AllByRecursion, filter, flat_map, list_all, slice_get}
pub use Rattle.std.specs.Option.{is_none, is_some, unwrap_or, option_map}
pub use Rattle.rtp_base.proofs.OverwritingLemmas.{overwritten-nil, overwritten-overwritten, length-overwritten, overwritten-front}
pub use Rattle.rtp_base.specs.Overwriting.{overwritten}
pub use Rattle.rtp_vla.specs.Allocation.{Layer, Stream, is_active, active_layers, mask_of, EndsActive, IsBareUnlessActive, IsReadable, count_of, AreMasks, AreRates, AreResolutions, IsCounted, Allocation, AreQuarters, IsPacked, Means, AreHalves, nothing_sent}
pub use Rattle.rtp_vla.specs.AllocationPutting.{HasSmallRates, IsSized, HasSizedResolution, count_bits, weight_after, four_bytes}
pub use Rattle.rtp_vla.specs.AllocationReading.{quarters, active_count, dealt_streams, after_rates, FitResolutions, layers_read, rate_count, IsLaidOut, next_len, halves, rates_of, resolution_in, after_resolution, HasMasks, LacksMasks, IsCutShort, layer_room, and_stream, marks_of, active_in, dealt, counts_in, Deals, DealsOn}
pub use Rattle.rtp_vla.specs.AllocationWritten.{rates_fit, resolution_fits, resolutions_in_front, shared_of, halves_of, mask_bytes, quarters_of, rate_bytes, resolution_field, resolution_bytes, in_front_of, without_bare_tail, bare_or_active, stream_fits, trimmed, Writable, layers_fit, streams_fit, can_be_written, packed_bytes, streams_bytes, written_of}
pub use Rattle.rtp_vla.specs.Leaving.{Leaves}
pub use Rattle.rtp_vla.specs.Leb.{ReadsLeb, spelled, unspelled, shortest_of, base128_value, IsLeb, BeginsNoLeb, leb_of}
pub use Rattle.rtp_vla.specs.LebReading.{leb_rest, leb_value, leb_number, weighed}
pub use Rattle.rtp_vla.specs.declared.allocation.ResolutionAndFramerate.{ResolutionAndFramerate}
