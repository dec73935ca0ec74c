use Rattle.rtp_c.proofs.Common.{◌≡◌, ◌∙◌, ℤ, w32, to_z, of_z, refl, ap, arith}
use Rattle.rtp_route.specs.Calls as calls
use Rattle.rtp_route.proofs.ByCallsLemmas.{header_in-length}
use Rattle.rtp_route.proofs.LengthLemmas.{short-header}
use Rattle.rtp_c.proofs.RoutedLemmas.{len-most}
use Rattle.rtp_c.proofs.routed_headers.write_one.Goals as goal

pub overflow_cast-receiver : goal.overflow_cast-receiver
overflow_cast-receiver c =
    let header = c.args.header.now in
    omega (arith, c.in-Ok.ensures.written.len_is, len-most (calls.header_in header) c.args.receiver.now, header_in-length header, short-header header)

pub returns-in-Ok-clause-written : goal.returns-in-Ok-clause-written
returns-in-Ok-clause-written c =
    let is = c.in-Ok.ensures.written in
    record {
      given_is = refl;
      written = λ _ _. (refl, is.len_is, (is.own, is.gets, is.after_is));
      short = λ _ few. absurd (omega (arith, few, is.len_is, is.within));
      refused = λ not. absurd (not is.served);
      unchanged = λ other. absurd (other refl);
    }

pub returns-in-Err-clause-written : goal.returns-in-Err-clause-written
returns-in-Err-clause-written c =
    let is = c.in-Err.ensures.refused in
    let told = c.refuse.ensures in
    let stored : (wanted : ℤ) → c.in-Err.status ≡ wanted → to_z w32 (of_z w32 c.in-Err.status) ≡ to_z w32 (of_z w32 wanted) = λ wanted same. ap (λ (z : ℤ). to_z w32 (of_z w32 z)) same in
    record {
      given_is = told.others;
      written = λ served room. absurd (omega (arith, room, (is.served served).1));
      short = λ served _. told.status ∙ stored _ (is.served served).0;
      refused = λ not. told.status ∙ stored _ (is.bad not);
      unchanged = λ _. (told.none, c.in-Err.ensures.unchanged);
    }
