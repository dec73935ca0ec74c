use Rattle.rtp_wire.proofs.Common.{◌≡◌, ℕ, ◌+◌, ◌-◌, ◌≤◌, List, [], ◌++◌, length, take, drop, append_assoc, arith, sym, ap, ◌∙◌, take-add, append-nil, take_rest, drop-drop, drop_all, put_mid, mid_of, paste}
use Rattle.rtp_wire.proofs.packet.resizing.move_back.Goals as goal

-- a copy in what follows an offset is one in the whole
moved_back : (xs new : List ℕ) (start count distance : ℕ) → start ≤ length xs → new ≡ paste (drop start xs) distance (drop start xs) count
    → put_mid start (length xs - start) xs new ≡ paste xs (start + distance) (drop start xs) count
moved_back xs new start count distance within is =
    let rest : List ℕ = drop start xs in
    let behind : List ℕ = drop (distance + count) rest in
    let none : drop (length xs - start) rest ≡ [] = drop-drop (length xs - start) start xs ∙ drop_all (start + (length xs - start)) xs (omega arith) in
    ap (λ (ys : List ℕ). take start xs ++ (ys ++ drop (length xs - start) rest)) is
    ∙ (ap (λ (ys : List ℕ). take start xs ++ (paste rest distance rest count ++ ys)) none
    ∙ (ap (λ (ys : List ℕ). take start xs ++ ys) (append-nil (paste rest distance rest count))
    ∙ (sym (append_assoc (take start xs) (take distance rest ++ take count rest) behind)
    ∙ (ap (λ (ys : List ℕ). ys ++ behind) (sym (append_assoc (take start xs) (take distance rest) (take count rest)) ∙ ap (λ (ys : List ℕ). ys ++ take count rest) (sym (take-add start distance xs)))
    ∙ ap (λ (ys : List ℕ). (take (start + distance) xs ++ take count rest) ++ ys) (drop-drop (distance + count) start xs ∙ ap (λ (n : ℕ). drop n xs) (omega arith))))))

pub returns : goal.returns
returns c =
    let xs = c.args.buf.now in
    let mid : mid_of c.args.start (length xs - c.args.start) xs ≡ drop c.args.start xs = take_rest xs c.args.start in
    moved_back xs c.copy_within.new.self c.args.start (c.args.end - c.args.start) c.args.distance (omega (arith, c.requires.order, c.requires.room))
    (c.copy_within.ensures.after
    ∙ (ap (λ (ys : List ℕ). paste ys c.args.distance ys (c.args.end - c.args.start - 0)) mid
    ∙ ap (λ (n : ℕ). paste (drop c.args.start xs) c.args.distance (drop c.args.start xs) n) (omega arith)))
