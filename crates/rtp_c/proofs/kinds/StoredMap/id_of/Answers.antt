use Rattle.rtp_c.proofs.Common.{◌≡◌, ◌+◌, length, drop, take, arith, rules}
use Rattle.rtp_c.proofs.MeantLemmas.{rest_is, IsIdOf-found, IsIdOf-none}
use Rattle.rtp_c.proofs.kinds.StoredMap.id_of.Goals as goal

pub returns-in-Some : goal.returns-in-Some
returns-in-Some c =
    let numbers = c.args.self.now.kind in
    let many : length numbers ≡ 256 = search rules in
    IsIdOf-found numbers (take 255 (drop 1 numbers)) c.args.number c.in-Some.index (c.in-Some.index + 1) (rest_is numbers many)
    (c.is_named.ensures.0 c.if-not-is_named.false) c.in-Some.ensures.found (omega arith)

pub returns-in-None : goal.returns-in-None
returns-in-None c =
    let numbers = c.args.self.now.kind in
    let many : length numbers ≡ 256 = search rules in
    IsIdOf-none numbers (take 255 (drop 1 numbers)) c.args.number (rest_is numbers many)
    (c.is_named.ensures.0 c.if-not-is_named.false) c.in-None.ensures.none
