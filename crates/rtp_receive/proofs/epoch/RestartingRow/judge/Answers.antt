use Rattle.std.proofs.Common.{refl, sym, inl, inr}
use Rattle.rtp_receive.specs.Restarting.{first_number}
use Rattle.rtp_receive.specs.RestartingState.{bounds_at, Leads}
use Rattle.rtp_receive.proofs.RestartingLemmas.{Begins-from, Begins-to, announced_new, announced_again, some_not_none, taken_not_refused, restarted_not_refused}
use Rattle.rtp_receive.proofs.epoch.RestartingRow.judge.Goals as goal

pub returns-in-Some-clause-placed : goal.returns-in-Some-clause-placed
returns-in-Some-clause-placed c size count taken top same = inl (c.in-Some.number, refl, c.in-Some.ensures.some size taken top c.in-Some.number refl)

pub returns-in-None-clause-placed : goal.returns-in-None-clause-placed
returns-in-None-clause-placed c size count taken top same =
    let low = c.args.sequence_number in
    inr (record {
      outside = c.in_default.ensures.none size taken top refl;
      judged = inr (
        refl,
        λ other begins. c.in-None.ensures.none refl (first_number count c.args.highest low)
            (Begins-to (bounds_at size c.args.bounds.now) count c.args.rollover_count taken c.args.highest (Leads c.args.self.now.len c.args.self.now.next low) low top same other begins),
      );
    })

pub returns-in-None-clause-row : goal.returns-in-None-clause-row
returns-in-None-clause-row c size taken top later k few =
    let grown = c.in-None.ensures.row later k few in (
      λ leads. let parts = grown.0 leads in (refl, c.in_default.ensures.none size taken top refl, parts.1, parts.2),
      λ parts. grown.1 (refl, parts.2, parts.3),
    )

pub returns-in-Some-begin-clause-placed : goal.returns-in-Some-begin-clause-placed
returns-in-Some-begin-clause-placed c size count taken top same =
    let low = c.args.sequence_number in
    let number = c.in-Some-begin.number in
    inr (record {
      outside = c.in_default.ensures.none size taken top refl;
      judged = inl (rw (sym (announced_new c.args.highest number c.if-is_new.ensures))
          (Begins-from (bounds_at size c.args.bounds.now) count c.args.rollover_count taken c.args.highest (Leads c.args.self.now.len c.args.self.now.next low) low top same number (c.in-Some-begin.ensures.begins number refl)));
    })

pub returns-in-Some-begin-clause-row : goal.returns-in-Some-begin-clause-row
returns-in-Some-begin-clause-row c size taken top later k few =
    (λ leads. absurd (some_not_none c.in-Some-begin.number ((c.in-Some-begin.ensures.row later k few).0 leads).0), λ parts. absurd (taken_not_refused c.in-Some-begin.number parts.0))

pub returns-in-Some-2-clause-placed : goal.returns-in-Some-2-clause-placed
returns-in-Some-2-clause-placed c size count taken top same =
    let low = c.args.sequence_number in
    let number = c.in-Some-begin.number in
    inr (record {
      outside = c.in_default.ensures.none size taken top refl;
      judged = inl (rw (sym (announced_again c.args.highest number c.if-is_new.ensures))
          (Begins-from (bounds_at size c.args.bounds.now) count c.args.rollover_count taken c.args.highest (Leads c.args.self.now.len c.args.self.now.next low) low top same number (c.in-Some-begin.ensures.begins number refl)));
    })

pub returns-in-Some-2-clause-row : goal.returns-in-Some-2-clause-row
returns-in-Some-2-clause-row c size taken top later k few =
    (λ leads. absurd (some_not_none c.in-Some-begin.number ((c.in-Some-begin.ensures.row later k few).0 leads).0), λ parts. absurd (restarted_not_refused c.in-Some-begin.number parts.0))
