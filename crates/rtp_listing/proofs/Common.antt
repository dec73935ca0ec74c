-- The names that most proofs cite, passed on from one place. Declares nothing.
pub use Rattle.std.proofs.Common.{◌≡◌, ℕ, ◌%◌, ◌+◌, ◌-◌, ◌<◌, ◌≤◌, inl, inr, suc, zero, List, [], ◌∷◌, length, take, drop, get_or, Result, Ok, Err, refl, sym, ap, ◌∙◌, subst, arith, ◌++◌, append_assoc, Bool, true, false, Option, map, eqb, below_more, length-append, Bor, codes, ◌/◌, ◌^◌, ◌*◌, append-nil, rules}
pub use Rattle.std.proofs.KnownBytes.{Appends-nil, Appends-trans, Appends-kept}
pub use Rattle.std.proofs.lemmas.Bool.{cases_lt, cases_eq, ne_eqb, eq-eqb, eqb-true, eqb-false}
pub use Rattle.std.proofs.lemmas.Fmt.{IsAscii-from_digits, decimal_digit, decimal_step}
pub use Rattle.std.proofs.lemmas.Grind.{common_steps}
pub use Rattle.std.proofs.lemmas.List.{length-take-le, length-drop, take_all, take-take, get_or-take, drop_more, drop_all, nil_from_length, reverse-append, length_push, map_push, take-append-drop, get_or-drop, get_or_at, take_rest}
pub use Rattle.std.proofs.lemmas.List.Elements.{All-from_get_or}
pub use Rattle.std.specs.Char.{IsAsciiHexdigit, IsNotAsciiHexdigit, IsAsciiDigit}
pub use Rattle.std.specs.Fmt.{decimal}
pub use Rattle.std.specs.Io.KnownBytes.{Appends}
pub use Rattle.std.specs.List.{All, find, slice_split}
pub use Rattle.std.specs.Option.{option_map, option_copied}
pub use Rattle.std.specs.Prelude.{IsOk, IsErr, ◌⊎◌, ◌==◌, Some, if◌then◌else◌, ◌&&◌, ◌↔◌, IsTrue, None, ◌≢◌, MatchResult, IfSome, IfErr, OnOk, IfNone}
pub use Rattle.std.specs.Str.{IsUtf8}
pub use Rattle.std.specs.Str.Lines.{lines, strip_carriage_return, lines_of_parts}
pub use Rattle.hex.specs.Hex.{decode_of, decode_pairs}
pub use Rattle.hex.specs.declared.error.FromHexError.{FromHexError}
pub use Rattle.rtp_ext.specs.ExtensionMap.{Slots, entry_at, unlocked, IsEmpty, Sets}
pub use Rattle.rtp_ext.specs.declared.map.ExtensionMap.{ExtensionMap}
pub use Rattle.rtp_wire.specs.PacketIds.{packet_id_of}
pub use Rattle.rtp_wire.specs.declared.header.rtp_header.RtpHeader.{RtpHeader}
pub use Rattle.rtp_listing.specs.Digits.{two_digits, four_digits}
pub use Rattle.rtp_listing.specs.Front.{IsPastDigits, IsFront, IsHexText, IsFirstNotHex, MapsNoneFirst}
pub use Rattle.rtp_listing.specs.Input.{Item, AreMapLines, IsEntryOf, AreMapped, last_for, AreHex, AreLines, IsStandardMap, IsMapOf, Spells, IsFirstBadLine, IsInput, HasBadLine}
pub use Rattle.rtp_listing.specs.MapLine.{IsMapLine, IsIdText}
pub use Rattle.rtp_listing.specs.Output.{IsHeader, packet_lines, IsListing, IsOutputOf, IsBadLineOf, IsFrontOf, nothing, some, IsWantOf, IsBeginningOf, of_lines, of_want, Prints, of_bad_line}
pub use Rattle.rtp_listing.specs.Stopping.{IsPartialListing, IsLeft, read_header}
pub use Rattle.rtp_listing.specs.declared.program.RunEnd.{RunEnd}
pub use Rattle.rtp_listing.specs.declared.program.RunEnd.TheVariants.{Done, BadLine, NoMemory, Io}
pub use Rattle.rtp_listing.specs.declared.text.TheConstants.{TWO_DIGITS}
