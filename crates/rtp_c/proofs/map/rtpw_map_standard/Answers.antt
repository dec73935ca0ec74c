use Rattle.std.proofs.Common.{◌≡◌, List, ℕ, replicate, set, refl}
use Rattle.rtp_c.proofs.StoredMapLemmas.{AreStandardNumbers-numbers, standard_numbers, low-numbers}
use Rattle.rtp_c.proofs.map.rtpw_map_standard.Goals as goal

pub returns-clause-standard : goal.returns-clause-standard
returns-clause-standard c =
    AreStandardNumbers-numbers _
    (rw (c.number_of.ensures, c.number_of-2.ensures, c.number_of-3.ensures, c.number_of-4.ensures, c.number_of-5.ensures, c.number_of-6.ensures, c.number_of-7.ensures) refl)

pub returns-clause-kinds : goal.returns-clause-kinds
returns-clause-kinds c id =
    let low : List ℕ =
    set (set (set (set (replicate 256 0) 1 c.number_of.result) 2 c.number_of-2.result) 3 c.number_of-3.result) 4 c.number_of-4.result in
    let numbers : List ℕ = set (set (set low 10 c.number_of-5.result) 11 c.number_of-6.result) 13 c.number_of-7.result in
    let are : numbers ≡ standard_numbers =
    rw (c.number_of.ensures, c.number_of-2.ensures, c.number_of-3.ensures, c.number_of-4.ensures, c.number_of-5.ensures, c.number_of-6.ensures, c.number_of-7.ensures) refl in
    low-numbers numbers are id
