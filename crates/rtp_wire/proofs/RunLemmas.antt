-- Runs of datagrams: the verdicts on them, all together and each source by itself.
use Rattle.rtp_wire.proofs.Common.{◌≡◌, ℕ, ◌+◌, ◌<◌, ◌≤◌, Bool, true, false, if◌then◌else◌, eqb, List, [], ◌∷◌, ◌++◌, length, take, get_or, refl, sym, ap, ◌∙◌, subst, arith, Option, Some, AllZip, AllByRecursion, eq-eqb, false≢true, length-map, take_all, take_more, Verdict, PacketId, IsRun, AreTrueNumbers, AreTrueVerdicts, at_source, SoFar, AreTrueVerdicts-run, SoFarEach, AllZip-at_source, ExtensionMap, RtpHeader, packet_id_of, IsPacketId, ArePacketIds, IsOfSource, packet_ids_of, AreSent, AreVerdicts, AreVerdictsBySource}
use Rattle.rtp_receive.specs.StreamState.{ReceiverState}
use Rattle.rtp_receive.specs.Receivers.{ReceiverStates}
use Rattle.rtp_wire.proofs.PacketIdLemmas.{one_packet_ids}
use Rattle.rtp_wire.proofs.SendingLemmas.{packet_ids_sent}

-- ---- all together

pub AllZip-more : {A B : Type 0} (R : A → B → Type 0) (xs : List A) (ys : List B) (x : A) (y : B) → AllZip R xs ys → R x y → AllZip R (xs ++ x ∷ []) (ys ++ y ∷ [])
AllZip-more R [] [] x y all one = (one, tt)
AllZip-more R [] (b ∷ ys) x y all one = absurd all
AllZip-more R (a ∷ xs) [] x y all one = absurd all
AllZip-more R (a ∷ xs) (b ∷ ys) x y all one = (all.0, AllZip-more R xs ys x y all.1 one)

-- the packet ids of the datagrams so far, which are the same under each map, and the run by them
pub record ReadSoFar (datagrams : List (List ℕ)) (RunSoFar : List (Option PacketId) → Type 0) : Type 0 where
  pub packet_ids : List (Option PacketId)
  pub are_packet_ids : (exts : ExtensionMap) → ArePacketIds exts datagrams packet_ids
  pub so_far : RunSoFar packet_ids

pub ReadSoFar-none : (RunSoFar : List (Option PacketId) → Type 0) → RunSoFar [] → ReadSoFar [] RunSoFar
ReadSoFar-none RunSoFar so_far = record { packet_ids = []; are_packet_ids = λ exts. tt; so_far = so_far }

-- one more of them
pub ReadSoFar-more : (datagrams : List (List ℕ)) (done : ℕ) (packet_id : Option PacketId) (Before After : List (Option PacketId) → Type 0) → done < length datagrams → (read : ReadSoFar (take done datagrams) Before)
    → ((exts : ExtensionMap) → IsPacketId exts (get_or datagrams done []) packet_id) → After (read.packet_ids ++ packet_id ∷ []) → ReadSoFar (take (done + 1) datagrams) After
ReadSoFar-more datagrams done packet_id Before After below read is so_far = record {
  packet_ids = read.packet_ids ++ packet_id ∷ [];
  are_packet_ids = λ exts. subst (λ ds. ArePacketIds exts ds (read.packet_ids ++ packet_id ∷ [])) (sym (take_more datagrams done [] below))
      (AllZip-more (IsPacketId exts) (take done datagrams) read.packet_ids (get_or datagrams done []) packet_id (read.are_packet_ids exts) (is exts));
  so_far = so_far;
}

-- all of them
pub ReadSoFar-all : (datagrams : List (List ℕ)) (done : ℕ) (RunSoFar : List (Option PacketId) → Type 0) → length datagrams ≤ done → ReadSoFar (take done datagrams) RunSoFar → ReadSoFar datagrams RunSoFar
ReadSoFar-all datagrams done RunSoFar past read = subst (λ ds. ReadSoFar ds RunSoFar) (take_all done datagrams past) read

-- so they are the verdicts on the datagrams under each map
pub AreVerdicts-read : (exts : ExtensionMap) (datagrams : List (List ℕ)) (verdicts : List Verdict) (receiver : ReceiverState) → ReadSoFar datagrams (λ packet_ids. SoFar packet_ids verdicts receiver)
    → AreVerdicts exts datagrams verdicts
AreVerdicts-read exts datagrams verdicts receiver read = record { packet_ids = read.packet_ids; are_packet_ids = read.are_packet_ids exts; run = read.so_far.run }

-- the verdicts on datagrams, by the true numbers of their packets
pub AreTrueVerdicts-of : (exts : ExtensionMap) (datagrams : List (List ℕ)) (verdicts : List Verdict) (packet_ids : List (Option PacketId)) (numbers : List ℕ)
    → AreVerdicts exts datagrams verdicts → ArePacketIds exts datagrams packet_ids → AreTrueNumbers 0 packet_ids numbers → AreTrueVerdicts packet_ids numbers verdicts
AreTrueVerdicts-of exts datagrams verdicts packet_ids numbers are read true_are =
    AreTrueVerdicts-run 0 packet_ids verdicts numbers
    (subst (λ rs. IsRun 0 rs verdicts) (one_packet_ids exts datagrams are.packet_ids packet_ids are.are_packet_ids read) are.run) true_are

-- ---- each source by itself

-- the verdicts on the datagrams are those under each map
pub AreVerdictsBySource-read : (exts : ExtensionMap) (datagrams : List (List ℕ)) (verdicts : List Verdict) (receivers : ReceiverStates) → ReadSoFar datagrams (λ packet_ids. SoFarEach packet_ids verdicts receivers)
    → AreVerdictsBySource exts datagrams verdicts
AreVerdictsBySource-read exts datagrams verdicts receivers read = record { packet_ids = read.packet_ids; are_packet_ids = read.are_packet_ids exts; runs = read.so_far.runs }

-- and those on the datagrams of a source are those of a run of them alone
pub AreVerdicts-each : (exts other : ExtensionMap) (datagrams : List (List ℕ)) (verdicts : List Verdict) (receivers : ReceiverStates) (packet_ids : List (Option PacketId)) (source : ℕ)
    → ReadSoFar datagrams (λ ids. SoFarEach ids verdicts receivers) → ArePacketIds exts datagrams packet_ids → AreVerdicts other (at_source source packet_ids datagrams) (at_source source packet_ids verdicts)
AreVerdicts-each exts other datagrams verdicts receivers packet_ids source found read =
    subst (λ rs. AreVerdicts other (at_source source rs datagrams) (at_source source rs verdicts)) (one_packet_ids exts datagrams found.packet_ids packet_ids (found.are_packet_ids exts) read)
    (record {
      packet_ids = at_source source found.packet_ids found.packet_ids;
      are_packet_ids = AllZip-at_source (IsPacketId other) source found.packet_ids datagrams found.packet_ids (found.are_packet_ids other);
      run = found.so_far.alone source;
    })

all_kept : {A : Type 0} (here : Bool) (x : A) (xs all : List A) → here ≡ true → xs ≡ all → (if here then x ∷ xs else xs) ≡ x ∷ all
all_kept true x xs all set is = ap (λ zs. x ∷ zs) is
all_kept false x xs all set is = absurd (false≢true set)

-- where all are of one source, its places are all places
at_source-all : {A : Type 0} (source : ℕ) (headers : List RtpHeader) (xs : List A) → AllByRecursion (IsOfSource source) headers → length xs ≡ length headers
    → at_source source (packet_ids_of headers) xs ≡ xs
at_source-all source [] [] of many = refl
at_source-all source [] (x ∷ xs) of many = absurd (omega (arith, many))
at_source-all source (h ∷ headers) [] of many = absurd (omega (arith, many))
at_source-all source (h ∷ headers) (x ∷ xs) of many =
    all_kept (eqb source h.ssrc) x (at_source source (packet_ids_of headers) xs) xs (eq-eqb source h.ssrc (sym of.0)) (at_source-all source headers xs of.1 (omega (arith, many)))

-- the verdicts on what arrives of one sender are those of the sender's numbers
pub AreTrueVerdicts-sent_each : (exts : ExtensionMap) (headers : List RtpHeader) (numbers : List ℕ) (datagrams : List (List ℕ)) (verdicts : List Verdict) (receivers : ReceiverStates)
    → ReadSoFar datagrams (λ packet_ids. SoFarEach packet_ids verdicts receivers) → AreSent exts headers numbers datagrams → AreTrueVerdicts (packet_ids_of headers) numbers verdicts
AreTrueVerdicts-sent_each exts headers numbers datagrams verdicts receivers read sent =
    let same = packet_ids_sent exts headers datagrams read.packet_ids sent.arrive (read.are_packet_ids exts) in
    let alone = subst (λ rs. IsRun 0 (at_source sent.source rs rs) (at_source sent.source rs verdicts)) same (read.so_far.alone sent.source) in
    let many = length-map headers (λ h. Some (packet_id_of h)) in
    let as_many : length verdicts ≡ length headers = read.so_far.runs.as_many ∙ ap length same ∙ many in
    AreTrueVerdicts-run 0 (packet_ids_of headers) verdicts numbers
    (subst (λ rs. IsRun 0 rs verdicts) (at_source-all sent.source headers (packet_ids_of headers) sent.of_source many)
    (subst (λ vs. IsRun 0 (at_source sent.source (packet_ids_of headers) (packet_ids_of headers)) vs) (at_source-all sent.source headers verdicts sent.of_source as_many) alone)) sent.are_true
