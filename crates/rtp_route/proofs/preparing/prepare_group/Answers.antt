use Rattle.std.proofs.Common.{◌≡◌, ℕ, take, refl, ap, ◌∙◌, arith}
use Rattle.rtp_route.specs.declared.stored_group.StoredGroup.{StoredGroup}
use Rattle.rtp_route.specs.declared.not_routed.NotRouted.TheVariants.{NotPut}
use Rattle.rtp_route.specs.NotRouted.{AreForTemplate}
use Rattle.rtp_route.specs.StoredGroup.{blank, blank_elements, AreNumbered}
use Rattle.rtp_route.proofs.PreparingLemmas.{zero-number, numbered-shapes, kept-none, some-if, byte-true, byte-false}
use Rattle.rtp_route.proofs.preparing.prepare_group.Goals as goal

pub returns-in-Some-clause-refused : goal.returns-in-Some-clause-refused
returns-in-Some-clause-refused g c =
    let few : AreForTemplate (g.L.ElementList.elements c.args.group.now.elements) = (omega (arith, c.if-count-gt-MAX_ELEMENTS.false), c.if-not-number_elements.ensures.own.0 refl) in
    (λ _. (NotPut c.in-Some.cause, (few, c.in-Some.ensures.first)), λ _. refl)

pub totals_of-requires-clause-no_number : goal.totals_of-requires-clause-no_number
totals_of-requires-clause-no_number g c =
    zero-number (g.L.ElementList.elements c.args.group.now.elements) c.number_elements.new.numbers c.if-not-number_elements.ensures.numbers c.in_default.ensures.none

pub unwrap-data_total-requires : goal.unwrap-data_total-requires
unwrap-data_total-requires g c =
    let news = g.L.ElementList.elements c.args.group.now.elements in
    let shapes : StoredGroup =
    record {
      new_ids = c.ids.result;
      numbers = c.number_elements.new.numbers;
      element_ids = c.put_shapes.new.ids;
      data_lens = c.put_shapes.new.lens;
      data_total = 0;
      count = c.count-2.result;
      allowed = c.number_of.result;
      one_byte = 0;
    } in
    let blanks : take c.count-2.result (blank_elements c.put_shapes.new.ids c.put_shapes.new.lens) ≡ blank news =
    ap (λ (n : ℕ). take n (blank_elements c.put_shapes.new.ids c.put_shapes.new.lens)) c.count-2.ensures ∙ c.put_shapes.ensures in
    some-if (AreNumbered shapes) c.totals_of.result c.totals_of.ensures.none
    (numbered-shapes shapes news (omega (arith, c.count-2.ensures, c.if-count-gt-MAX_ELEMENTS.false)) c.put_shapes.array_long c.put_shapes.array_long2 c.count-2.ensures blanks c.if-not-number_elements.ensures.numbers
    (c.if-not-number_elements.ensures.own.0 refl) c.in_default.ensures.none)

pub returns-clause-prepared : goal.returns-clause-prepared
returns-clause-prepared g c =
    let news = g.L.ElementList.elements c.args.group.now.elements in
    let totals = rw c.unwrap-data_total.ensures at c.totals_of.ensures.totals in
    record {
      is_group = record {
        few = omega (arith, c.count-2.ensures, c.if-count-gt-MAX_ELEMENTS.false);
        allowed_is = c.number_of.ensures.few;
        no_new_id = c.ids.ensures.first;
        no_number = zero-number news c.number_elements.new.numbers c.if-not-number_elements.ensures.numbers c.in_default.ensures.none;
        carried = totals.carried;
        numbered = totals.numbered;
        total_is = totals.total_is;
        short = λ some. totals.short (byte-true c.unwrap-data_total.result.1 c.from.result c.from.ensures some);
        long = λ none. totals.long (byte-false c.unwrap-data_total.result.1 c.from.result c.from.ensures none);
      };
      ids_are = c.ids.ensures.ids;
      elements_are = ap (λ (n : ℕ). take n (blank_elements c.put_shapes.new.ids c.put_shapes.new.lens)) c.count-2.ensures ∙ c.put_shapes.ensures;
      allowed_is = c.number_of.ensures.form;
    }

pub returns-clause-refused : goal.returns-clause-refused
returns-clause-refused g c =
    let few : AreForTemplate (g.L.ElementList.elements c.args.group.now.elements) = (omega (arith, c.if-count-gt-MAX_ELEMENTS.false), c.if-not-number_elements.ensures.own.0 refl) in
    (λ never. absurd cc, λ kept. absurd (kept-none (g.L.ElementList.elements c.args.group.now.elements) kept.0 few c.in_default.ensures.none kept.1))
