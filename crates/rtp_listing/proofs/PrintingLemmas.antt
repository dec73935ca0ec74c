-- The lines of datagrams that are printed while the lines of the input are read.
use Rattle.rtp_listing.proofs.Common.{◌≡◌, ℕ, ◌+◌, ◌<◌, ◌≤◌, List, [], ◌∷◌, ◌++◌, length, drop, get_or, Option, Ok, refl, ap, ◌∙◌, subst, arith, IsOk, option_map, lines, Appends, drop_more, length-drop, decode_of, ExtensionMap, RtpHeader, packet_id_of, AreHex, IsHexText, IsHeader, packet_lines}
use Rattle.rtp_base.specs.Window.{Numbers}
use Rattle.rtp_receive.specs.declared.receiver.Verdict.{Verdict}
use Rattle.rtp_receive.specs.Receivers.{ReceiverStates}
use Rattle.rtp_receive.specs.Verdicts.{IsVerdict}
use Rattle.rtp_receive.specs.Sources.{numbers_beside}
use Rattle.rtp_receive.specs.EachSource.{HoldsEach, taken_after_each}
use Rattle.rtp_listing.proofs.ReadLemmas.{hex_first}
use Rattle.rtp_listing.proofs.PrintLemmas.{Printed, Printed-none, Printed-more, Printed-written}

-- the lines of the datagrams so far are printed or in the text, and the rest of the input is the lines of the others
pub record Printing (exts : ExtensionMap) (input rest : List ℕ) (done : ℕ) (old new : Option (List ℕ)) (text : List ℕ) (receivers : ReceiverStates) : Type 0 where
  pub fits : done + length rest ≤ length input
  pub printed : (datagrams : List (List ℕ)) → AreHex (lines input) datagrams → Printed exts datagrams done old new text receivers
  pub left : (datagrams : List (List ℕ)) → AreHex (lines input) datagrams → AreHex (lines rest) (drop done datagrams)

pub Printing-none : (exts : ExtensionMap) (input : List ℕ) (old : Option (List ℕ)) (text : List ℕ) (receivers : ReceiverStates) → Appends old old [] → text ≡ []
    → receivers ≡ record { rollover_count = 0; by_source = [] } → Printing exts input input 0 old old text receivers
Printing-none exts input old text receivers same empty none = record {
  fits = omega arith;
  printed = λ datagrams hex. Printed-none exts datagrams old text receivers same empty none;
  left = λ datagrams hex. hex;
}

-- some datagram is left where some line is
some_left : (done : ℕ) (datagrams : List (List ℕ)) (bytes : List ℕ) (more : List (List ℕ)) → drop done datagrams ≡ bytes ∷ more → done < length datagrams
some_left done datagrams bytes more is = omega (arith, length-drop done datagrams, ap length is)

-- the line that is read next is that of the next datagram
pub record NextLine (line after : List ℕ) (datagrams : List (List ℕ)) (done : ℕ) : Type 0 where
  pub below : done < length datagrams
  pub decoded : decode_of line ≡ Ok (get_or datagrams done [])
  pub others : AreHex (lines after) (drop (done + 1) datagrams)

pub NextLine-left : (rest line after : List ℕ) (datagrams : List (List ℕ)) (done : ℕ) → AreHex (lines rest) (drop done datagrams) → lines rest ≡ line ∷ lines after
    → NextLine line after datagrams done
NextLine-left rest line after datagrams done left first =
    let step = hex_first line (lines after) (drop done datagrams) (subst (λ (ls : List (List ℕ)). AreHex ls (drop done datagrams)) first left) in
    let below : done < length datagrams = some_left done datagrams step.0 step.1 step.2 in
    let cut : drop done datagrams ≡ get_or datagrams done [] ∷ drop (done + 1) datagrams = drop_more datagrams done [] below in
    let here : step.0 ≡ get_or datagrams done [] = cc (step.2, cut) in
    let there : step.1 ≡ drop (done + 1) datagrams = cc (step.2, cut) in
    record {
      below = below;
      decoded = step.3 ∙ ap Ok here;
      others = subst (AreHex (lines after)) there step.4;
    }

-- it is hexadecimal
pub IsOk-next : (exts : ExtensionMap) (input rest line after : List ℕ) (done : ℕ) (old new : Option (List ℕ)) (text : List ℕ) (receivers : ReceiverStates)
    → Printing exts input rest done old new text receivers → IsHexText input → lines rest ≡ line ∷ lines after → IsOk (decode_of line)
IsOk-next exts input rest line after done old new text receivers p hex first =
    let next = NextLine-left rest line after hex.0 done (p.left hex.0 hex.1) first in rw next.decoded refl

-- the lines of one datagram more are put after the text
pub Printing-more : (exts : ExtensionMap) (input rest line after : List ℕ) (done : ℕ) (old new : Option (List ℕ)) (text text' : List ℕ) (before later : ReceiverStates) (header : Option RtpHeader) (verdict : Verdict)
    → Printing exts input rest done old new text before → lines rest ≡ line ∷ lines after → length after < length rest
    → ((bytes : List ℕ) → decode_of line ≡ Ok bytes → IsHeader exts bytes header)
    → ((taken : ℕ → Numbers) → HoldsEach before 0 taken → IsVerdict 0 (numbers_beside taken (option_map packet_id_of header)) (option_map packet_id_of header) verdict)
    → ((taken : ℕ → Numbers) → HoldsEach before 0 taken → HoldsEach later 0 (taken_after_each taken (option_map packet_id_of header) verdict))
    → text' ≡ text ++ packet_lines (done + 1) header verdict → Printing exts input after (done + 1) old new text' later
Printing-more exts input rest line after done old new text text' before later header verdict p first shorter is judged holds grown =
    let next = λ (datagrams : List (List ℕ)) (hex : AreHex (lines input) datagrams). NextLine-left rest line after datagrams done (p.left datagrams hex) first in
    record {
      fits = let fits = p.fits in omega arith;
      printed = λ datagrams hex.
          let here = next datagrams hex in
          Printed-more exts datagrams done old new text text' before later header verdict (p.printed datagrams hex) here.below (is (get_or datagrams done []) here.decoded)
          judged holds grown;
      left = λ datagrams hex. (next datagrams hex).others;
    }

-- the text is written
pub Printing-written : (exts : ExtensionMap) (input rest : List ℕ) (done : ℕ) (old new after : Option (List ℕ)) (text text' : List ℕ) (receivers : ReceiverStates)
    → Printing exts input rest done old new text receivers → Appends new after text → text' ≡ [] → Printing exts input rest done old after text' receivers
Printing-written exts input rest done old new after text text' receivers p appends empty = record {
  fits = p.fits;
  printed = λ datagrams hex. Printed-written exts datagrams done old new after text text' receivers (p.printed datagrams hex) appends empty;
  left = p.left;
}

none_left : (done : ℕ) (datagrams left : List (List ℕ)) → drop done datagrams ≡ left → AreHex [] left → length datagrams ≤ done
none_left done datagrams [] is hex = omega (arith, length-drop done datagrams, ap length is)
none_left done datagrams (bytes ∷ more) is hex = absurd (cc)

-- where nothing is left to read all datagrams are done
pub all_done : (exts : ExtensionMap) (input rest : List ℕ) (done : ℕ) (old new : Option (List ℕ)) (text : List ℕ) (receivers : ReceiverStates)
    → Printing exts input rest done old new text receivers → rest ≡ [] → (datagrams : List (List ℕ)) → AreHex (lines input) datagrams → length datagrams ≤ done
all_done exts input rest done old new text receivers p empty datagrams hex =
    none_left done datagrams (drop done datagrams) refl (subst (λ (xs : List ℕ). AreHex (lines xs) (drop done datagrams)) empty (p.left datagrams hex))
