use Rattle.rtp_listing.proofs.Common.{◌≡◌, ℕ, List, Option, subst, IfSome, RunEnd, Done, BadLine, NoMemory, Io, Prints, IsLeft}
use Rattle.rtp_listing.proofs.ReadLemmas.{input_has_none, bad_is_none}
use Rattle.rtp_listing.proofs.RunLemmas.{on_known, Prints-want, Prints-part_of_want, IsInput-printed, HasBadLine-printed}
use Rattle.rtp_listing.proofs.program.run.Goals as goal

-- what is left, at the end that a run has
left_at : (known old new : Option (List ℕ)) (end end' : RunEnd) → end ≡ end' → IfSome known (λ text. Prints old new (IsLeft text end)) → IfSome known (λ text. Prints old new (IsLeft text end'))
left_at known old new end end' is left = subst (λ (e : RunEnd). IfSome known (λ text. Prints old new (IsLeft text e))) is left

pub returns-in-Ok-clause-no_memory : goal.returns-in-Ok-clause-no_memory
returns-in-Ok-clause-no_memory g c _ =
    on_known (g.R.Read.remaining c.args.input.now) _ _ (λ text. Prints-want text _ _ _ c.in-Ok.ensures.ok) (left_at _ _ _ c.in-Err.end NoMemory c.in-NoMemory.is c.in-Err.ensures.err)

pub returns-in-Err-write_text-clause-io : goal.returns-in-Err-write_text-clause-io
returns-in-Err-write_text-clause-io g c _ =
    on_known (g.R.Read.remaining c.args.input.now) _ _ (λ text. Prints-part_of_want text _ _ _ c.in-Err-write_text.ensures.beginning)
    (left_at _ _ _ c.in-Err.end NoMemory c.in-NoMemory.is c.in-Err.ensures.err)

pub returns-in_default-clause-refused : goal.returns-in_default-clause-refused
returns-in_default-clause-refused g c =
    bad_is_none (g.R.Read.remaining c.args.input.now) (Done ≡ Done) (λ _. on_known (g.R.Read.remaining c.args.input.now) _ _ (IsInput-printed _ _) c.in_default.ensures.ok)

pub returns-in_default-end-clause-done : goal.returns-in_default-end-clause-done
returns-in_default-end-clause-done g c is =
    on_known (g.R.Read.remaining c.args.input.now) _ _ (λ text left. absurd left.2) (left_at _ _ _ c.in-Err.end Done is c.in-Err.ensures.err)

pub returns-in_default-end-clause-bad_line : goal.returns-in_default-end-clause-bad_line
returns-in_default-end-clause-bad_line g c is = left_at _ _ _ c.in-Err.end BadLine is c.in-Err.ensures.err

pub returns-in_default-end-clause-io : goal.returns-in_default-end-clause-io
returns-in_default-end-clause-io g c is = left_at _ _ _ c.in-Err.end Io is c.in-Err.ensures.err

pub returns-in_default-end-clause-taken : goal.returns-in_default-end-clause-taken
returns-in_default-end-clause-taken g c =
    input_has_none (g.R.Read.remaining c.args.input.now) (c.in-Err.end ≡ BadLine)
    (λ is. on_known (g.R.Read.remaining c.args.input.now) _ _ (HasBadLine-printed _ _) (left_at _ _ _ c.in-Err.end BadLine is c.in-Err.ensures.err))

pub returns-in_default-end-clause-refused : goal.returns-in_default-end-clause-refused
returns-in_default-end-clause-refused g c =
    bad_is_none (g.R.Read.remaining c.args.input.now) (c.in-Err.end ≡ Done)
    (λ is. on_known (g.R.Read.remaining c.args.input.now) _ _ (λ text left. absurd left.2) (left_at _ _ _ c.in-Err.end Done is c.in-Err.ensures.err))
