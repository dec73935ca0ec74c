-- Two rows of elements that are put in another form, one behind the other.
use Rattle.rtp_ext.proofs.Common.{◌≡◌, ℕ, ◌+◌, ◌-◌, ◌≤◌, List, [], ◌++◌, length, take, drop, length-append, length-drop, length-take-le, arith, refl, sym, ap, ◌∙◌, slice_range, append-nil, take_at, drop_at, take-append-le, take-take, drop-append-le, drop_all, take_rest, paste, put_mid, ExtensionsForm, OneByte, TwoByte, Element, elements_bytes, StandInRows, HasRowsFor, IsRowFor, ChangesRow}
use Rattle.rtp_ext.proofs.ServingFormLemmas.{length-two}
use Rattle.rtp_ext.proofs.RowFormLemmas.{row-same, each_element}
use Rattle.rtp_ext.proofs.AnewLemmas.{length-both}

-- the first row doesn't reach the second one
first_fits : (form new_form : ExtensionsForm) (xs ys : List Element) (n at : ℕ) → length (elements_bytes new_form xs) + length (elements_bytes new_form ys) ≤ n
    → length (elements_bytes form xs) ≤ at → at + length (elements_bytes form ys) ≤ n → length (elements_bytes new_form xs) + length (elements_bytes form ys) ≤ n
first_fits OneByte OneByte xs ys n at fits order within = fits
first_fits TwoByte TwoByte xs ys n at fits order within = fits
first_fits OneByte TwoByte xs ys n at fits order within = omega (arith, fits, length-two ys)
first_fits TwoByte OneByte xs ys n at fits order within = omega (arith, order, within, length-two xs)

module _ {form new_form : ExtensionsForm} {body1 body2 body3 : List ℕ} {r0 at r1 : ℕ} (rows : HasRowsFor form new_form body1 r0 at r1)
    (copied : body2 ≡ paste body1 (length body1 - r1) (drop at body1) (at + r1 - at)) (again : body3 ≡ paste body2 (length body1 - r1 - r0) (drop 0 body2) (r0 - 0)) where
  abbrev xs : List Element
  xs = rows.before

  abbrev ys : List Element
  ys = rows.after

  x_row : take r0 body1 ≡ elements_bytes form xs
  x_row = rows.rows.front_is

  y_row : slice_range body1 at (at + r1) ≡ elements_bytes form ys
  y_row = rows.rows.after_is

  x_len : r0 ≡ length (elements_bytes form xs)
  x_len = rows.rows.front_len

  y_len : r1 ≡ length (elements_bytes form ys)
  y_len = rows.rows.count_is

  all_fit : length (elements_bytes new_form xs) + length (elements_bytes new_form ys) ≤ length body1
  all_fit = let f = rows.fits in omega (arith, length-both new_form xs ys)

  first_fit : length (elements_bytes new_form xs) + r1 ≤ length body1
  first_fit =
      let o = rows.rows.order in
      let w = rows.rows.within in
      omega (arith, y_len, first_fits form new_form xs ys (length body1) at all_fit (omega (arith, x_len)) (omega (arith, y_len)))

  order : r0 + r1 ≤ length body1
  order = let o = rows.rows.order in let w = rows.rows.within in omega arith

  abbrev rest : ℕ
  rest = length body1 - r1

  abbrev last : List ℕ
  last = slice_range body1 at (at + r1)

  last_len : length last ≡ r1
  last_len = omega (arith, ap length y_row, y_len)

  body2_is : body2 ≡ take rest body1 ++ last
  body2_is =
      let none : drop (rest + (at + r1 - at)) body1 ≡ [] = drop_all (rest + (at + r1 - at)) body1 (let o = order in omega arith) in
      copied ∙ (ap (λ b. take rest body1 ++ take (at + r1 - at) (drop at body1) ++ b) none
      ∙ append-nil (take rest body1 ++ take (at + r1 - at) (drop at body1)))

  front_len : length (take rest body1) ≡ rest
  front_len = length-take-le rest body1 (omega arith)

  body2_last : drop rest body2 ≡ last
  body2_last = ap (drop rest) body2_is ∙ drop_at (take rest body1) last rest front_len

  body2_front : take r0 body2 ≡ take r0 body1
  body2_front =
      ap (take r0) body2_is ∙ (take-append-le r0 (take rest body1) last (let o = order in omega (arith, front_len))
      ∙ take-take r0 rest body1 (let o = order in omega arith))

  body3_is : body3 ≡ (take (rest - r0) body2 ++ take r0 body1) ++ last
  body3_is =
      let o = order in
      let k : rest - r0 + (r0 - 0) ≡ rest = omega arith in
      let m : r0 - 0 ≡ r0 = omega arith in
      again ∙ (ap (λ (n : ℕ). take (rest - r0) body2 ++ take (r0 - 0) body2 ++ drop n body2) k
      ∙ (ap (λ (n : ℕ). take (rest - r0) body2 ++ take n body2 ++ drop rest body2) m
      ∙ (ap (λ b. take (rest - r0) body2 ++ b ++ drop rest body2) body2_front
      ∙ ap (λ b. take (rest - r0) body2 ++ take r0 body1 ++ b) body2_last)))

  body2_len : length body2 ≡ length body1
  body2_len = let o = order in omega (arith, ap length body2_is, length-append (take rest body1) last, last_len, front_len)

  skipped_len : length (take (rest - r0) body2) ≡ rest - r0
  skipped_len = length-take-le (rest - r0) body2 (omega (arith, body2_len))

  x_bytes_len : length (take r0 body1) ≡ r0
  x_bytes_len = omega (arith, ap length x_row, x_len)

  room_len : length (take (rest - r0) body2 ++ take r0 body1) ≡ rest
  room_len = let o = order in omega (arith, length-append (take (rest - r0) body2) (take r0 body1), skipped_len, x_bytes_len)

  room_is : take rest body3 ≡ take (rest - r0) body2 ++ take r0 body1
  room_is = ap (take rest) body3_is ∙ take_at (take (rest - r0) body2 ++ take r0 body1) last rest room_len

  last_is : drop rest body3 ≡ last
  last_is = ap (drop rest) body3_is ∙ drop_at (take (rest - r0) body2 ++ take r0 body1) last rest room_len

  first_row : drop (length (take rest body3) - r0) (take rest body3) ≡ elements_bytes form xs
  first_row =
      ap (λ b. drop (length b - r0) b) room_is
      ∙ (ap (λ (n : ℕ). drop (n - r0) (take (rest - r0) body2 ++ take r0 body1)) room_len
      ∙ (drop_at (take (rest - r0) body2) (take r0 body1) (rest - r0) skipped_len ∙ x_row))

  -- the first room
  pub first_for : IsRowFor form new_form (take (length body1 - r1) body3) r0
  first_for =
      let o = order in
      let long : length (take rest body3) ≡ rest = ap length room_is ∙ room_len in
      record {
        elements = xs;
        are_writable = rows.are_before;
        are_carried = rows.before_carried;
        row_is = first_row;
        within = omega (arith, long);
        fits = omega (arith, long, first_fit);
      }

  module _ (room1 : List ℕ) (f : ℕ) (changed : ChangesRow form new_form (take (length body1 - r1) body3) room1 r0 f) (same : length room1 ≡ length (take (length body1 - r1) body3)) where
    first_is : changed.elements ≡ xs
    first_is = row-same form changed.elements xs (each_element form changed.elements changed.are_writable) (each_element form xs rows.are_before) (sym changed.row_was ∙ first_row)

    room1_len : length room1 ≡ rest
    room1_len = same ∙ (ap length room_is ∙ room_len)

    f_is : f ≡ length (elements_bytes new_form xs)
    f_is = changed.end_is ∙ ap (λ es. length (elements_bytes new_form es)) first_is

    x_new : take f room1 ≡ elements_bytes new_form xs
    x_new = changed.row_is ∙ ap (elements_bytes new_form) first_is

    abbrev body4 : List ℕ
    body4 = room1 ++ drop (length body1 - r1) body3

    body4_len : length body4 ≡ length body1
    body4_len = let o = order in omega (arith, length-append room1 (drop rest body3), room1_len, ap length last_is, last_len)

    pub first_within : f ≤ length (room1 ++ drop (length body1 - r1) body3)
    first_within = omega (arith, body4_len, f_is, first_fit)

    before_rest : f ≤ rest
    before_rest = omega (arith, f_is, first_fit)

    abbrev room2_was : List ℕ
    room2_was = take (length body4 - f) (drop f body4)

    room2_long : length room2_was ≡ length body1 - f
    room2_long = omega (arith, ap length (take_rest body4 f), length-drop f body4, body4_len)

    second_row : drop (length room2_was - r1) room2_was ≡ elements_bytes form ys
    second_row =
        let b = before_rest in
        let o = order in
        let left : drop f body4 ≡ drop f room1 ++ drop rest body3 = drop-append-le f room1 (drop rest body3) (omega (arith, room1_len)) in
        let at_last : length room2_was - r1 ≡ length (drop f room1) = omega (arith, room2_long, length-drop f room1, room1_len) in
        ap (λ (k : ℕ). drop k room2_was) at_last
        ∙ (ap (drop (length (drop f room1))) (take_rest body4 f ∙ left)
        ∙ (drop_at (drop f room1) (drop rest body3) (length (drop f room1)) refl ∙ (last_is ∙ y_row)))

    -- the second room
    pub second_for : IsRowFor form new_form (take (length (room1 ++ drop (length body1 - r1) body3) - f) (drop f (room1 ++ drop (length body1 - r1) body3))) r1
    second_for =
        let b = before_rest in
        let o = order in
        record {
          elements = ys;
          are_writable = rows.are_after;
          are_carried = rows.after_carried;
          row_is = second_row;
          within = omega (arith, room2_long);
          fits = omega (arith, room2_long, f_is, all_fit);
        }

    module _ (room2 : List ℕ) (e : ℕ) (changed2 : ChangesRow form new_form room2_was room2 r1 e) where
      second_is : changed2.elements ≡ ys
      second_is = row-same form changed2.elements ys (each_element form changed2.elements changed2.are_writable) (each_element form ys rows.are_after) (sym changed2.row_was ∙ second_row)

      abbrev body5 : List ℕ
      body5 = put_mid f (length (room1 ++ drop (length body1 - r1) body3) - f) (room1 ++ drop (length body1 - r1) body3) room2

      head_len : length (take f body4) ≡ f
      head_len = length-take-le f body4 first_within

      pub rows_changed : StandInRows new_form rows.before rows.after body5 f f e
      rows_changed =
          let b = before_rest in
          let few = changed2.within in
          let k : f + e - f ≡ e = omega arith in
          record {
            front_is = take_at (take f body4) (room2 ++ drop (length body4 - f) (drop f body4)) f head_len
                ∙ (take-append-le f room1 (drop rest body3) (omega (arith, room1_len)) ∙ x_new);
            after_is = ap (λ (n : ℕ). take n (drop f body5)) k
                ∙ (ap (take e) (drop_at (take f body4) (room2 ++ drop (length body4 - f) (drop f body4)) f head_len)
                ∙ (take-append-le e room2 (drop (length body4 - f) (drop f body4)) few ∙ (changed2.row_is ∙ ap (elements_bytes new_form) second_is)));
            front_len = f_is;
            count_is = changed2.end_is ∙ ap (λ es. length (elements_bytes new_form es)) second_is;
            order = omega arith;
            within = omega (
              arith,
              few,
              head_len,
              length-append (take f body4) (room2 ++ drop (length body4 - f) (drop f body4)),
              length-append room2 (drop (length body4 - f) (drop f body4)),
            );
          }
