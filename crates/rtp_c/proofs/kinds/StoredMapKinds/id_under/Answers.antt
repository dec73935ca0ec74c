use Rattle.rtp_c.proofs.Common.{◌≡◌, ◌≢◌, ◌<◌, ◌+◌, ℕ, ap, sym, refl, ◌∙◌, subst, length, drop, take, get_or, rules, Some, option_map, extension_of_kind, extension_at, IsNewId, IsFirstNumber, numbered_slots}
use Rattle.rtp_c.proofs.NumberedLemmas.{numbered-found, numbered-unmapped}
use Rattle.rtp_c.proofs.MeantLemmas.{rest_is}
use Rattle.rtp_c.proofs.kinds.StoredMapKinds.id_under.Goals as goal

pub returns-in_err-index-clause-new : goal.returns-in_err-index-clause-new
returns-in_err-index-clause-new c =
    let to = c.args.other.now.kind in
    let many : length to ≡ 256 = search rules in
    let found : option_map extension_of_kind (Some c.in_ok-kind.kind) ≡ extension_at (numbered_slots c.args.self.now.kind) c.args.id =
    ap (option_map extension_of_kind) (sym c.in_ok-kind.was) ∙ c.get.ensures in
    subst (IsNewId (numbered_slots c.args.self.now.kind) (numbered_slots to) c.args.id) (sym c.from_residual-in_err-index.ensures)
    (numbered-unmapped c.args.self.now.kind to (take 255 (drop 1 to)) c.args.id c.in_ok-kind.kind (rest_is to many) found
    (subst (λ (n : ℕ). (k : ℕ) → k < length (take 255 (drop 1 to)) → get_or (take 255 (drop 1 to)) k 0 ≢ n) c.number_of.ensures c.in_err-index.ensures.none))

pub returns-clause-new : goal.returns-clause-new
returns-clause-new c =
    let to = c.args.other.now.kind in
    let many : length to ≡ 256 = search rules in
    let found : option_map extension_of_kind (Some c.in_ok-kind.kind) ≡ extension_at (numbered_slots c.args.self.now.kind) c.args.id =
    ap (option_map extension_of_kind) (sym c.in_ok-kind.was) ∙ c.get.ensures in
    numbered-found c.args.self.now.kind to (take 255 (drop 1 to)) c.args.id c.in_ok-kind.kind c.in_ok-index.index (c.in_ok-index.index + 1) (rest_is to many) found
    (subst (λ (n : ℕ). IsFirstNumber (take 255 (drop 1 to)) n c.in_ok-index.index) c.number_of.ensures c.in_ok-index.ensures.found) refl
