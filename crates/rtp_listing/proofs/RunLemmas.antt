-- What a run prints, put together.
use Rattle.rtp_listing.proofs.Common.{◌≡◌, ℕ, List, [], ◌++◌, Option, Some, None, Result, Ok, Err, refl, sym, append_assoc, ap, ◌∙◌, codes, IfSome, IfErr, OnOk, Appends, Appends-nil, Appends-trans, ExtensionMap, RunEnd, Done, BadLine, NoMemory, Io, Spells, IsInput, HasBadLine, IsListing, IsOutputOf, IsBadLineOf, IsFrontOf, nothing, some, IsWantOf, IsBeginningOf, of_lines, of_want, Prints, IsPartialListing, IsLeft}

-- what follows from a fact on an error, and from one on a known input
pub on_err : {A : Type 0} (r : Result A RunEnd) (P Q : RunEnd → Type 0) → ((end : RunEnd) → P end → Q end) → IfErr r P → IfErr r Q
on_err (Ok x) P Q step p = tt
on_err (Err end) P Q step p = step end p

pub on_known : (known : Option (List ℕ)) (P Q : List ℕ → Type 0) → ((text : List ℕ) → P text → Q text) → IfSome known P → IfSome known Q
on_known None P Q step p = tt
on_known (Some text) P Q step p = step text p

pub for_known : (known : Option (List ℕ)) (Q : List ℕ → Type 0) → ((text : List ℕ) → Q text) → IfSome known Q
for_known None Q q = tt
for_known (Some text) Q q = q text

-- nothing is printed
pub Prints-none : (text : List ℕ) (old : Option (List ℕ)) → Prints old old (IsLeft text NoMemory)
Prints-none text old = ([], Appends-nil old, nothing refl)

pub Prints-unread : (text : List ℕ) (old : Option (List ℕ)) → Prints old old (IsLeft text Io)
Prints-unread text old = ([], Appends-nil old, of_lines [] (nothing refl))

-- where the lines of all datagrams are printed, the output is
pub IsOutputOf-listed : {A : Type 0} (r : Result A RunEnd) (text : List ℕ) (exts : ExtensionMap) (datagrams : List (List ℕ)) (old new : Option (List ℕ)) → Spells text exts datagrams
    → OnOk r (Prints old new (IsListing exts datagrams)) → OnOk r (Prints old new (IsOutputOf text))
IsOutputOf-listed (Ok x) text exts datagrams old new spells (printed, appends, listing) =
    (printed, appends, record { exts = exts; datagrams = datagrams; spelled = spells; listing = listing })
IsOutputOf-listed (Err end) text exts datagrams old new spells is = tt

-- where the lines of the datagrams stop, the output stops
pub IsLeft-stopped : (text : List ℕ) (exts : ExtensionMap) (datagrams : List (List ℕ)) (old new : Option (List ℕ)) → Spells text exts datagrams
    → (end : RunEnd) → Prints old new (IsPartialListing exts datagrams end) → Prints old new (IsLeft text end)
IsLeft-stopped text exts datagrams old new spells Done (printed, appends, never) = absurd never
IsLeft-stopped text exts datagrams old new spells BadLine (printed, appends, never) = absurd never
IsLeft-stopped text exts datagrams old new spells NoMemory (printed, appends, (count, listing)) = (printed, appends, some exts datagrams count spells listing)
IsLeft-stopped text exts datagrams old new spells Io (printed, appends, (count, rest, listing)) = (printed, appends, of_lines rest (some exts datagrams count spells listing))

-- want of memory is put after the first lines, in whole or in part
pub Prints-want : (text : List ℕ) (old new after : Option (List ℕ)) → Appends new after (codes "want of memory\n") → Prints old new (IsFrontOf text) → Prints old after (IsWantOf text)
Prints-want text old new after want (front, appends, is) =
    (front ++ codes "want of memory\n", Appends-trans old new after front (codes "want of memory\n") appends want, record { front = front; front_is = is; printed_is = refl })

pub Prints-part_of_want : (text : List ℕ) (old new after : Option (List ℕ)) → Prints new after (λ (printed : List ℕ). (rest : List ℕ) × (codes "want of memory\n" ≡ printed ++ rest))
    → Prints old new (IsFrontOf text) → Prints old after (IsBeginningOf text)
Prints-part_of_want text old new after (part, more, (rest, split)) (front, appends, is) = (
  front ++ part,
  Appends-trans old new after front part appends more,
  of_want rest (record { front = front; front_is = is; printed_is = append_assoc front part rest ∙ ap (λ (xs : List ℕ). front ++ xs) (sym split) }),
)

-- an output says of its input whether all lines are well-formed
pub IsInput-printed : (old new : Option (List ℕ)) (text : List ℕ) → Prints old new (IsOutputOf text) → IsInput text
IsInput-printed old new text (printed, appends, is) = (is.spelled.items, is.datagrams, is.spelled.lines_are)

pub HasBadLine-printed : (old new : Option (List ℕ)) (text : List ℕ) → Prints old new (IsBadLineOf text) → HasBadLine text
HasBadLine-printed old new text (printed, appends, is) = (is.number, is.first)
