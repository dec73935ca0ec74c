-- A block that is rewritten with no element but those of the id 0 gone is one that is made anew, with what comes behind its own elements.
use Rattle.std.proofs.Common.{◌≡◌, ◌≢◌, ℕ, List, ◌++◌, length, max, sym, ap, subst, ◌∙◌}
use Rattle.std.specs.List.{AllByRecursion}
use Rattle.std.proofs.lemmas.List.Elements.{All-from_recursion}
use Rattle.rtp_ext.specs.declared.form.ExtensionsForm.{ExtensionsForm}
use Rattle.rtp_ext.specs.Elements.{Element, AreElements, elements_bytes}
use Rattle.rtp_ext.specs.ElementsInARow.{IsWritable}
use Rattle.rtp_ext.specs.PutElement.{without, put_among, row_to}
use Rattle.rtp_ext.specs.WrittenBlock.{whole_words}
use Rattle.rtp_ext.proofs.AnewLemmas.{all-parts, no_zero_left}
use Rattle.rtp_ext.proofs.PutLemmas.{put_among-none}
use Rattle.rtp_wire.specs.PutIntoPacket.{body_of_block}
use Rattle.rtp_wire.specs.RemadeBlock.{IsRemade, RemakesBlock, HasUncarried}
use Rattle.rtp_wire.specs.RewrittenBlock.{IsRewritten, RewritesBlock, CarriesNot}
use Rattle.rtp_wire.proofs.RewrittenLemmas.{each-among}

-- where no id but 0 goes, what comes is last
pub among-last : (comes elements : List Element) → put_among 0 comes (without 0 elements) ≡ without 0 elements ++ comes
among-last comes elements = put_among-none 0 comes (without 0 elements) (All-from_recursion (λ (e : Element). e.0 ≢ 0) (without 0 elements) (no_zero_left elements))

module _ (bytes : List ℕ) (form : ExtensionsForm) (added : List Element) where
  pub without-carried : (elements : List Element) → AllByRecursion (IsWritable form) (put_among 0 added (without 0 elements)) → AllByRecursion (IsWritable form) (without 0 elements)
  without-carried elements all = (all-parts (IsWritable form) (without 0 elements) added (subst (AllByRecursion (IsWritable form)) (among-last added elements) all)).0

  abbrev pub remade-of : IsRewritten bytes form 0 added → IsRemade bytes form added
  remade-of rewritten = record {
    parts = rewritten.parts;
    elements = rewritten.elements;
    body_len = rewritten.body_len;
    len = rewritten.len;
    is_packet = rewritten.is_packet;
    no_other = rewritten.no_other;
    are_elements = rewritten.are_elements;
    are_carried = without-carried rewritten.elements rewritten.are_carried;
    body_len_is = rewritten.body_len_is
        ∙ ap (λ (es : List Element). max (length (body_of_block rewritten.parts.block)) (whole_words (length (elements_bytes form es)))) (among-last added rewritten.elements);
    len_is = rewritten.len_is;
  }

  pub of-uncarried : HasUncarried bytes form → CarriesNot bytes form 0 added
  of-uncarried has = record {
    parts = has.parts;
    elements = has.elements;
    is_packet = has.is_packet;
    are_elements = has.are_elements;
    uncarried = λ all. has.uncarried (without-carried has.elements all);
  }

  pub RemakesBlock-rewritten : (new : List ℕ) (len : ℕ) → RewritesBlock bytes form 0 added new len → RemakesBlock bytes form added new len
  RemakesBlock-rewritten new len made = record {
    remade = remade-of made.rewritten;
    body = made.body;
    len_is = made.len_is;
    body_is = made.body_is ∙ ap (λ (es : List Element). row_to form es made.rewritten.body_len) (among-last added made.rewritten.elements);
    is_packet = made.is_packet;
    are_elements = subst (AreElements form made.body) (among-last added made.rewritten.elements) made.are_elements;
    word_is = made.word_is;
    new_word_is = made.new_word_is;
  }

  module _ (writable : AllByRecursion (IsWritable form) added) where
    abbrev pub of-remade : IsRemade bytes form added → IsRewritten bytes form 0 added
    of-remade remade = record {
      parts = remade.parts;
      elements = remade.elements;
      body_len = remade.body_len;
      len = remade.len;
      is_packet = remade.is_packet;
      no_other = remade.no_other;
      are_elements = remade.are_elements;
      are_carried = each-among (IsWritable form) 0 added (without 0 remade.elements) writable remade.are_carried;
      body_len_is = remade.body_len_is
          ∙ ap (λ (es : List Element). max (length (body_of_block remade.parts.block)) (whole_words (length (elements_bytes form es)))) (sym (among-last added remade.elements));
      len_is = remade.len_is;
    }

    pub uncarried-of : CarriesNot bytes form 0 added → HasUncarried bytes form
    uncarried-of has = record {
      parts = has.parts;
      elements = has.elements;
      is_packet = has.is_packet;
      are_elements = has.are_elements;
      uncarried = λ all. has.uncarried (each-among (IsWritable form) 0 added (without 0 has.elements) writable all);
    }
