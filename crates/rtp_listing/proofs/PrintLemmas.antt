-- The lines of datagrams that are printed one after the other.
use Rattle.std.proofs.Common.{◌≡◌, ℕ, ◌+◌, ◌<◌, ◌≤◌, List, [], ◌∷◌, ◌++◌, length, map, take, get_or, refl, sym, ap, ◌∙◌, subst, arith, append_assoc, append-nil, Bool, true, false, Bor}
use Rattle.std.specs.Prelude.{Option, Some, None, Result, Ok, Err, IsErrAnd, IfErr}
use Rattle.std.specs.Option.{option_map, option_copied}
use Rattle.std.specs.Bool.{OnTrue, then_some}
use Rattle.std.specs.List.{AllZip}
use Rattle.std.specs.Io.KnownBytes.{Appends, Keeps}
use Rattle.std.proofs.KnownBytes.{Appends-nil, Appends-trans, Appends-kept}
use Rattle.std.proofs.lemmas.List.{map_push, length_push, take_more, take_all}
use Rattle.rtp_base.specs.Window.{Numbers}
use Rattle.rtp_ext.specs.declared.map.ExtensionMap.{ExtensionMap}
use Rattle.rtp_wire.specs.declared.header.rtp_header.RtpHeader.{RtpHeader}
use Rattle.rtp_receive.specs.declared.receiver.Verdict.{Verdict}
use Rattle.rtp_wire.specs.Header.{IsWire}
use Rattle.rtp_receive.specs.Receivers.{ReceiverStates}
use Rattle.rtp_receive.specs.Verdicts.{PacketId, IsVerdict}
use Rattle.rtp_wire.specs.PacketIds.{packet_id_of, IsPacketId, ArePacketIds}
use Rattle.rtp_receive.specs.Sources.{taken_of, numbers_beside}
use Rattle.rtp_receive.specs.EachSource.{HoldsEach, taken_after_each}
use Rattle.rtp_wire.proofs.RunLemmas.{AllZip-more}
use Rattle.rtp_receive.proofs.SourceLemmas.{SoFarEach, SoFarEach-none, SoFarEach-more}
use Rattle.rtp_listing.specs.declared.program.RunEnd.{RunEnd}
use Rattle.rtp_listing.specs.declared.program.RunEnd.TheVariants.{NoMemory, Io}
use Rattle.rtp_listing.specs.Output.{IsHeader, packet_lines, lines_from, IsListing, Prints}
use Rattle.rtp_listing.specs.Stopping.{IsPartialListing, read_header}

-- a header of a datagram, with the verdict on it
abbrev pub Listing : Type 0
Listing = Option RtpHeader × Verdict

-- where a header was read, it is shown
pub shown_is : (found : Bool) (header : Bor RtpHeader) → option_copied (then_some found header) ≡ read_header found header.now
shown_is true header = refl
shown_is false header = refl

-- what `parse_into` reads is the header of the datagram
pub IsHeader-read : (exts : ExtensionMap) (datagram : List ℕ) (found : Bool) (header : RtpHeader) → OnTrue found (IsWire exts datagram header)
    → ((other : RtpHeader) → IsWire exts datagram other → (found ≡ true) × (header ≡ other)) → IsHeader exts datagram (read_header found header)
IsHeader-read exts datagram true header wire only = wire
IsHeader-read exts datagram false header wire only = λ other is. let seen = (only other is).0 in absurd (cc seen)

-- and its packet id is that of the datagram
IsPacketId-header : (exts : ExtensionMap) (datagram : List ℕ) (header : Option RtpHeader) → IsHeader exts datagram header → IsPacketId exts datagram (option_map packet_id_of header)
IsPacketId-header exts datagram None none = none
IsPacketId-header exts datagram (Some header) wire = record { header = header; wire = wire; packet_id_is = refl }

-- the lines of one datagram more
lines_from-push : (packet : ℕ) (listings : List Listing) (listing : Listing) → lines_from packet (listings ++ listing ∷ []) ≡ lines_from packet listings ++ packet_lines (packet + length listings) listing.0 listing.1
lines_from-push packet [] listing = append-nil _ ∙ ap (λ (n : ℕ). packet_lines n listing.0 listing.1) (omega arith)
lines_from-push packet (first ∷ listings) listing =
    let here = packet_lines packet first.0 first.1 in
    ap (λ (xs : List ℕ). here ++ xs) (lines_from-push (packet + 1) listings listing)
    ∙ sym (append_assoc here (lines_from (packet + 1) listings) (packet_lines (packet + 1 + length listings) listing.0 listing.1))
    ∙ ap (λ (n : ℕ). (here ++ lines_from (packet + 1) listings) ++ packet_lines n listing.0 listing.1) (omega arith)

-- the lines of the first datagrams, of which a part is written, in whole lines, and the rest is in the text
pub record Printed (exts : ExtensionMap) (datagrams : List (List ℕ)) (done : ℕ) (old new : Option (List ℕ)) (text : List ℕ) (receivers : ReceiverStates) : Type 0 where
  pub listings : List Listing
  pub as_many : length listings ≡ done
  pub headers_are : AllZip (λ (datagram : List ℕ) (listing : Listing). IsHeader exts datagram listing.0) (take done datagrams) listings
  pub packet_ids : List (Option PacketId)
  pub are_packet_ids : ArePacketIds exts (take done datagrams) packet_ids
  pub so_far : SoFarEach packet_ids (map (λ (listing : Listing). listing.1) listings) receivers
  pub written : List ℕ
  pub appended : Appends old new written
  pub lines_are : written ++ text ≡ lines_from 1 listings
  pub count : ℕ
  pub whole : IsListing exts (take count datagrams) written

pub Printed-none : (exts : ExtensionMap) (datagrams : List (List ℕ)) (old : Option (List ℕ)) (text : List ℕ) (receivers : ReceiverStates) → Appends old old [] → text ≡ [] → receivers ≡ record { rollover_count = 0; by_source = [] }
    → Printed exts datagrams 0 old old text receivers
Printed-none exts datagrams old text receivers same empty none =
    let so_far : SoFarEach [] [] receivers = SoFarEach-none receivers none in
    record {
      listings = [];
      as_many = refl;
      headers_are = tt;
      packet_ids = [];
      are_packet_ids = tt;
      so_far = so_far;
      written = [];
      appended = same;
      lines_are = empty;
      count = 0;
      whole = record { listings = []; headers_are = tt; verdicts_are = record { packet_ids = []; are_packet_ids = tt; runs = so_far.runs }; printed_is = refl };
    }

-- the lines of one datagram more are put after the text
pub Printed-more : (exts : ExtensionMap) (datagrams : List (List ℕ)) (done : ℕ) (old new : Option (List ℕ)) (text text' : List ℕ) (before after : ReceiverStates) (header : Option RtpHeader) (verdict : Verdict)
    → Printed exts datagrams done old new text before → done < length datagrams → IsHeader exts (get_or datagrams done []) header
    → ((taken : ℕ → Numbers) → HoldsEach before 0 taken → IsVerdict 0 (numbers_beside taken (option_map packet_id_of header)) (option_map packet_id_of header) verdict)
    → ((taken : ℕ → Numbers) → HoldsEach before 0 taken → HoldsEach after 0 (taken_after_each taken (option_map packet_id_of header) verdict))
    → text' ≡ text ++ packet_lines (done + 1) header verdict → Printed exts datagrams (done + 1) old new text' after
Printed-more exts datagrams done old new text text' before after header verdict p below is judged holds grown =
    let listing : Listing = (header, verdict) in
    let datagram = get_or datagrams done [] in
    let packet_id = option_map packet_id_of header in
    let verdicts = map (λ (r : Listing). r.1) p.listings in
    let one : take (done + 1) datagrams ≡ take done datagrams ++ datagram ∷ [] = take_more datagrams done [] below in
    record {
      listings = p.listings ++ listing ∷ [];
      as_many = length_push p.listings listing ∙ ap (λ (k : ℕ). k + 1) p.as_many;
      headers_are =
          subst (λ (ds : List (List ℕ)). AllZip (λ (d : List ℕ) (r : Listing). IsHeader exts d r.0) ds (p.listings ++ listing ∷ [])) (sym one)
          (AllZip-more (λ (d : List ℕ) (r : Listing). IsHeader exts d r.0) (take done datagrams) p.listings datagram listing p.headers_are is);
      packet_ids = p.packet_ids ++ packet_id ∷ [];
      are_packet_ids =
          subst (λ (ds : List (List ℕ)). ArePacketIds exts ds (p.packet_ids ++ packet_id ∷ [])) (sym one)
          (AllZip-more (IsPacketId exts) (take done datagrams) p.packet_ids datagram packet_id p.are_packet_ids (IsPacketId-header exts datagram header is));
      so_far =
          subst (λ (vs : List Verdict). SoFarEach (p.packet_ids ++ packet_id ∷ []) vs after) (sym (map_push (λ (r : Listing). r.1) p.listings listing))
          (SoFarEach-more p.packet_ids packet_id verdicts verdict before after p.so_far (judged (taken_of p.packet_ids verdicts) p.so_far.holds) (holds (taken_of p.packet_ids verdicts) p.so_far.holds));
      written = p.written;
      appended = p.appended;
      lines_are =
          ap (λ (xs : List ℕ). p.written ++ xs) grown ∙ sym (append_assoc p.written text (packet_lines (done + 1) header verdict))
          ∙ ap (λ (xs : List ℕ). xs ++ packet_lines (done + 1) header verdict) p.lines_are
          ∙ ap (λ (n : ℕ). lines_from 1 p.listings ++ packet_lines n header verdict) (omega (arith, p.as_many))
          ∙ sym (lines_from-push 1 p.listings listing);
      count = p.count;
      whole = p.whole;
    }

-- the lines of the first datagrams, whether they are written or in the text
pub IsListing-printed : (exts : ExtensionMap) (datagrams : List (List ℕ)) (done : ℕ) (old new : Option (List ℕ)) (text : List ℕ) (receivers : ReceiverStates)
    → (p : Printed exts datagrams done old new text receivers) → IsListing exts (take done datagrams) (p.written ++ text)
IsListing-printed exts datagrams done old new text receivers p = record { listings = p.listings; headers_are = p.headers_are; verdicts_are = record { packet_ids = p.packet_ids; are_packet_ids = p.are_packet_ids; runs = p.so_far.runs }; printed_is = p.lines_are }

-- the text is written
pub Printed-written : (exts : ExtensionMap) (datagrams : List (List ℕ)) (done : ℕ) (old new after : Option (List ℕ)) (text text' : List ℕ) (receivers : ReceiverStates)
    → Printed exts datagrams done old new text receivers → Appends new after text → text' ≡ [] → Printed exts datagrams done old after text' receivers
Printed-written exts datagrams done old new after text text' receivers p appends empty = record {
  listings = p.listings;
  as_many = p.as_many;
  headers_are = p.headers_are;
  packet_ids = p.packet_ids;
  are_packet_ids = p.are_packet_ids;
  so_far = p.so_far;
  written = p.written ++ text;
  appended = Appends-trans old new after p.written text p.appended appends;
  lines_are = ap (λ (xs : List ℕ). (p.written ++ text) ++ xs) empty ∙ append-nil (p.written ++ text) ∙ p.lines_are;
  count = done;
  whole = IsListing-printed exts datagrams done old new text receivers p;
}

module _ (exts : ExtensionMap) (datagrams : List (List ℕ)) (done : ℕ) (old new after : Option (List ℕ)) (text bytes : List ℕ) (receivers : ReceiverStates) (p : Printed exts datagrams done old new text receivers) (same : bytes ≡ text) where
  listing : IsListing exts (take done datagrams) (p.written ++ text)
  listing = IsListing-printed exts datagrams done old new text receivers p

  appended : Appends new after bytes → Appends old after (p.written ++ text)
  appended appends = Appends-trans old new after p.written text p.appended (subst (Appends new after) same appends)

  -- all lines are written
  pub Prints-all : (last : Option (List ℕ)) → length datagrams ≤ done → Appends new after bytes → Keeps after last → Prints old last (IsListing exts datagrams)
  Prints-all last all appends keeps = (
    p.written ++ text,
    Appends-kept old after last (p.written ++ text) (appended appends) keeps,
    subst (λ (ds : List (List ℕ)). IsListing exts ds (p.written ++ text)) (take_all done datagrams all) listing,
  )

  -- the lines so far are written, and memory is refused
  pub Prints-written : Appends new after bytes → Prints old after (IsPartialListing exts datagrams NoMemory)
  Prints-written appends = (p.written ++ text, appended appends, (done, listing))

  -- only a beginning of the lines is written
  pub Prints-cut : Prints new after (λ (printed : List ℕ). (rest : List ℕ) × (bytes ≡ printed ++ rest)) → Prints old after (IsPartialListing exts datagrams Io)
  Prints-cut (printed, appends, (rest, split)) = (
    p.written ++ printed,
    Appends-trans old new after p.written printed p.appended appends,
    (
      done,
      rest,
      subst (IsListing exts (take done datagrams)) (ap (λ (xs : List ℕ). p.written ++ xs) (sym same ∙ split) ∙ sym (append_assoc p.written printed rest)) listing,
    ),
  )

-- memory is refused before anything is printed
pub Prints-nothing : (exts : ExtensionMap) (datagrams : List (List ℕ)) (old : Option (List ℕ)) → Prints old old (IsPartialListing exts datagrams NoMemory)
Prints-nothing exts datagrams old =
    ([], Appends-nil old, (0, record { listings = []; headers_are = tt; verdicts_are = record { packet_ids = []; are_packet_ids = tt; runs = record { as_many = refl; each = λ i below. absurd (omega arith) } }; printed_is = refl }))

-- an error that is handed on, and what holds of it
pub handed_on : {A : Type 0} (r : Result A RunEnd) (error end : RunEnd) (P : RunEnd → Type 0) → IsErrAnd r (λ e. e ≡ error) → error ≡ end → P end → IfErr r P
handed_on (Ok x) error end P is same holds = absurd is
handed_on (Err e) error end P is same holds = subst P (sym (is ∙ same)) holds
