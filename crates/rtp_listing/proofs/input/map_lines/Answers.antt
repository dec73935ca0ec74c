use Rattle.rtp_listing.proofs.Common.{◌≡◌, rules, List, ℕ, [], sym, ap, subst, get_or, ◌∙◌, nil_from_length, eqb-true, lines, IsMapLine}
use Rattle.rtp_listing.proofs.FrontLemmas.{IsFront-none, IsFront-more}
use Rattle.rtp_listing.proofs.input.map_lines.Goals as goal
use Rattle.rtp_listing.proofs.input.map_lines.Goals.{else-loop-alloc-test, then-loop-alloc-test+in_default}

pub loop-alloc-init : goal.loop-alloc-init
loop-alloc-init c = search (rules, IsFront-none)

pub loop-alloc-preserved : goal.loop-alloc-preserved
loop-alloc-preserved c =
    let is_map = c.in-Some.ensures.found in
    IsFront-more c.args.text.now c.loop-alloc.rest.now c.first_line.result.0.now c.first_line.result.1.now c.in-Some.uri.now c.loop-alloc.exts c.set.new.self c.loop-alloc.count c.in-Some.id
    c.in_ok-from_sdp_uri.field-0 c.loop-alloc.invariant c.first_line.ensures.first c.first_line.ensures.shorter is_map c.in_ok-from_sdp_uri.ensures.named
    (c.set.ensures.within is_map.digits_are.is_id)

pub returns-clause-all : goal.returns-clause-all
returns-clause-all c line others id uri first is_map =
    elim c.loop-alloc-test.branch [
      | else-loop-alloc-test w ↦
          let nil : c.loop-alloc.rest.now ≡ [] = nil_from_length _ (eqb-true _ 0 (sym c.is_empty.ensures ∙ w.loop-alloc-test.false)) in
          absurd (cc (sym (ap lines nil) ∙ first))
      | then-loop-alloc-test+in_default w ↦
          let same : w.first_line.result.0.now ≡ line = ap (λ (ls : List (List ℕ)). get_or ls 0 line) (sym w.first_line.ensures.first ∙ first) in
          absurd (w.in_default.ensures.only id uri (subst (λ (l : List ℕ). IsMapLine l id uri) (sym same) is_map))
    ]
