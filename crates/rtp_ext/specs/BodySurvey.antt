-- What a body has of an id, and its elements in a row: what the functions that make a body anew promise each other.
use Rattle.std.specs.Prelude.{◌≡◌, ℕ, ◌+◌, ◌-◌, ◌*◌, ◌≤◌, List, [], ◌++◌, length, take, drop, slice_range, Bool, not, ◌||◌, ◌==◌, if◌then◌else◌, Option, Some, None, IfSome, IfNone}
use Rattle.std.specs.List.{filter, AllByRecursion}
use Rattle.rtp_ext.specs.declared.form.ExtensionsForm.{ExtensionsForm}
use Rattle.rtp_ext.specs.declared.form.ExtensionsForm.TheVariants.{OneByte, TwoByte}
use Rattle.rtp_ext.specs.declared.place.Place.{Place}
use Rattle.rtp_ext.specs.declared.survey.Survey.{Survey}
use Rattle.rtp_ext.specs.Elements.{Element, AreElements, elements_bytes}
use Rattle.rtp_ext.specs.ElementReading.{elements_left}
use Rattle.rtp_ext.specs.ElementsInPlace.{HasNone}
use Rattle.rtp_ext.specs.ElementPlaces.{LiesLast, IsPassed, AreWhole}
use Rattle.rtp_ext.specs.ElementsInARow.{IsWritable}
use Rattle.rtp_ext.specs.PutElement.{has_id, without, row_to}

-- whether an element has the id, or the id 0
abbrev pub goes : ℕ → Element → Bool
goes id element = has_id id element || has_id 0 element

-- the elements of other ids, in order, and none of the id 0
abbrev pub others : ℕ → List Element → List Element
others id elements = filter (λ element. not (goes id element)) elements

-- the other one of the two forms
abbrev pub other_form : ExtensionsForm → ExtensionsForm
other_form OneByte = TwoByte
other_form TwoByte = OneByte

-- where the bytes before the last element of the id end; where none is to be left out for what comes, as for the id 0, all elements are before it, up to where the last of them ends
abbrev pub start_around : ℕ → ℕ → Option Place → ℕ
start_around id end None = end
start_around id end (Some place) = if id == 0 then end else place.start

-- where those after it begin
abbrev pub end_around : ℕ → ℕ → Option Place → ℕ
end_around id end None = end
end_around id end (Some place) = if id == 0 then end else place.end

-- the place of the last element of the id, how many elements have it or the id 0, how many bytes the others take, and where the last of all ends
pub record IsSurvey (form : ExtensionsForm) (body : List ℕ) (id : ℕ) (survey : Survey) : Type 0 where
  pub elements : List Element
  pub are_elements : AreElements form body elements
  pub last_is : IfSome survey.last (λ place. (place.id ≡ id) × LiesLast form (AreElements form) id body place)
  pub none_is : IfNone survey.last (HasNone elements id)
  pub count_is : survey.count ≡ length (filter (goes id) elements)
  pub others_are : survey.others_len ≡ length (elements_bytes form (others id elements))
  pub others_within : survey.others_len ≤ length body
  pub read : IsPassed form body survey.end id survey.last
  pub all_read : read.elements ≡ elements
  pub none_left : AreElements form read.left []

-- the same of the body up to an offset
pub record IsSurveyedTo (form : ExtensionsForm) (body : List ℕ) (at id : ℕ) (last : Option Place) (count others_len : ℕ) : Type 0 where
  pub passed : IsPassed form body at id last
  pub count_is : count ≡ length (filter (goes id) passed.elements)
  pub others_are : others_len ≡ length (elements_bytes form (others id passed.elements))
  pub count_small : count ≤ at
  pub others_small : others_len ≤ at

-- the elements of other ids, but those of the id 0, stand in a row at the front, in so many bytes
pub record IsGathered (form : ExtensionsForm) (id : ℕ) (old new : List ℕ) (len : ℕ) : Type 0 where
  pub elements : List Element
  pub are_elements : AreElements form old elements
  pub row_is : take len new ≡ elements_bytes form (others id elements)
  pub len_is : len ≡ length (elements_bytes form (others id elements))
  pub length_is : length new ≡ length old
  pub within : len ≤ length old

-- the same of the elements up to an offset; what follows that is as it was
pub record IsGatheredTo (form : ExtensionsForm) (id : ℕ) (old new : List ℕ) (at len : ℕ) : Type 0 where
  pub passed : List ℕ
  pub gap : List ℕ
  pub left : List ℕ
  pub elements : List Element
  pub are_whole : AreWhole form passed elements
  pub old_is : old ≡ passed ++ left
  pub new_is : new ≡ elements_bytes form (others id elements) ++ (gap ++ left)
  pub at_is : at ≡ length passed
  pub len_is : len ≡ length (elements_bytes form (others id elements))
  pub gap_is : len + length gap ≡ at

-- the last bytes of a room, so many of them, are elements of a form in a row, none of the id 0; another form can carry each, and the room is as long as they are in that
pub record IsRowFor (form new_form : ExtensionsForm) (room : List ℕ) (len : ℕ) : Type 0 where
  pub elements : List Element
  pub are_writable : AllByRecursion (IsWritable form) elements
  pub are_carried : AllByRecursion (IsWritable new_form) elements
  pub row_is : drop (length room - len) room ≡ elements_bytes form elements
  pub within : len ≤ length room
  pub fits : length (elements_bytes new_form elements) ≤ length room

-- these elements stand at the front of the room in the other form, in so many bytes
pub record ChangesRow (form new_form : ExtensionsForm) (old new : List ℕ) (len end : ℕ) : Type 0 where
  pub elements : List Element
  pub are_writable : AllByRecursion (IsWritable form) elements
  pub row_was : drop (length old - len) old ≡ elements_bytes form elements
  pub row_is : take end new ≡ elements_bytes new_form elements
  pub end_is : end ≡ length (elements_bytes new_form elements)
  pub within : end ≤ length new

-- the same of the elements up to an offset, with those that are left
pub record ChangesRowTo (form new_form : ExtensionsForm) (old new : List ℕ) (len at end : ℕ) : Type 0 where
  pub passed : List Element
  pub left : List Element
  pub are_passed : AllByRecursion (IsWritable form) passed
  pub are_left : AllByRecursion (IsWritable form) left
  pub are_carried : AllByRecursion (IsWritable new_form) left
  pub row_was : drop (length old - len) old ≡ elements_bytes form (passed ++ left)
  pub left_is : drop at new ≡ elements_bytes form left
  pub row_is : take end new ≡ elements_bytes new_form passed
  pub end_is : end ≡ length (elements_bytes new_form passed)
  pub at_is : at + length (elements_bytes form left) ≡ length new
  pub behind : end ≤ at
  pub fits : end + length (elements_bytes new_form left) ≤ length new

-- how many bytes the elements up to an offset take in a row in another form, which can carry each, without those of the id and of the id 0
pub record IsRowLengthTo (form new_form : ExtensionsForm) (id : ℕ) (body : List ℕ) (at len : ℕ) : Type 0 where
  pub passed : List Element
  pub elements_are : elements_left form body ≡ passed ++ elements_left form (drop at body)
  pub len_is : len ≡ length (elements_bytes new_form (others id passed))
  pub are_carried : AllByRecursion (IsWritable new_form) (others id passed)
  pub small : len ≤ 2 * at
  pub within : at ≤ length body

-- elements of a form stand in a row of so many bytes at the front, and others in a row of so many bytes from an offset on
pub record StandInRows (form : ExtensionsForm) (before after : List Element) (body : List ℕ) (front at count : ℕ) : Type 0 where
  pub front_is : take front body ≡ elements_bytes form before
  pub after_is : slice_range body at (at + count) ≡ elements_bytes form after
  pub front_len : front ≡ length (elements_bytes form before)
  pub count_is : count ≡ length (elements_bytes form after)
  pub order : front ≤ at
  pub within : at + count ≤ length body

-- of the bytes before an offset, and between two further ones, the elements of other ids, but those of the id 0, stand in rows: those before it at the front, the others from the first of these offsets on
pub record HasRows (form : ExtensionsForm) (id : ℕ) (old new : List ℕ) (start end body_len front count : ℕ) : Type 0 where
  pub before : List Element
  pub after : List Element
  pub are_before : AreElements form (take start old) before
  pub are_after : AreElements form (slice_range old end body_len) after
  pub rows : StandInRows form (others id before) (others id after) new front end count
  pub length_is : length new ≡ length old

-- elements stand in two rows, none of the id 0; another form can carry each, and there is room for them in that
pub record HasRowsFor (form new_form : ExtensionsForm) (body : List ℕ) (front at count : ℕ) : Type 0 where
  pub before : List Element
  pub after : List Element
  pub are_before : AllByRecursion (IsWritable form) before
  pub are_after : AllByRecursion (IsWritable form) after
  pub before_carried : AllByRecursion (IsWritable new_form) before
  pub after_carried : AllByRecursion (IsWritable new_form) after
  pub rows : StandInRows form before after body front at count
  pub fits : length (elements_bytes new_form (before ++ after)) ≤ length body

-- a body is its elements without those of the id 0, in a row of so many bytes, and zeros
pub record IsCompacted (form : ExtensionsForm) (old new : List ℕ) (len : ℕ) : Type 0 where
  pub elements : List Element
  pub are_elements : AreElements form old elements
  pub new_is : new ≡ row_to form (without 0 elements) (length old)
  pub len_is : len ≡ length (elements_bytes form (without 0 elements))
  pub within : len ≤ length old
