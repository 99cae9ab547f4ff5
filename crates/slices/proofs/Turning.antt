-- A ring's slots, turned so that its values come first: what a push and a skip do to them.
use Rattle.std.proofs.Common.{◌≡◌, ℕ, ◌+◌, ◌-◌, ◌<◌, ◌≤◌, ltb, List, [], ◌∷◌, ◌++◌, length, take, drop, set, sym, ap, ◌∙◌, ⊎_elim, arith}
use Rattle.std.proofs.lemmas.List.{append_assoc, drop-append-le, drop-drop, drop-set-add, drop-set-lt, drop-take, length-append, length-drop, length-take-le, set-append_left, set-append_right, take-append-drop, take-append-le, take-set-le, take-take, take_more_set}
use Rattle.std.proofs.lemmas.Bool.{cases_lt, cond-true, cond-false, lt-ltb, le-ltb}
use Rattle.std.proofs.Math.Seq.{drop-append-add, take-set-lt}
use Rattle.slices.specs.Rings.{live, place_at}

pub place_near : (slots start k : ℕ) → start + k < slots → place_at slots start k ≡ start + k
place_near slots start k h = cond-true (ltb (start + k) slots) _ _ (lt-ltb (start + k) slots h)

pub place_far : (slots start k : ℕ) → slots ≤ start + k → place_at slots start k ≡ start + k - slots
place_far slots start k h = cond-false (ltb (start + k) slots) _ _ (le-ltb (start + k) slots h)

abbrev turned : {X : Type 0} → ℕ → List X → List X
turned start slots = drop start slots ++ take start slots

module _ {X : Type 0} (slots : List X) (start n : ℕ) (within : start ≤ length slots) where
  upper : length (drop start slots) ≡ length slots - start
  upper = length-drop start slots

  length_turned : length (turned start slots) ≡ length slots
  length_turned = omega (arith, length-append (drop start slots) (take start slots), upper, length-take-le start slots within)

  -- a value is written behind the first n
  module _ (room : n < length slots) (x : X) where
    turned_near : start + n < length slots → turned start (set slots (start + n) x) ≡ set (turned start slots) n x
    turned_near near =
        ap (λ l. l ++ take start (set slots (start + n) x)) (drop-set-add start slots n x)
        ∙ ap (λ l. set (drop start slots) n x ++ l) (take-set-le start slots (start + n) x (omega arith))
        ∙ sym (set-append_left (drop start slots) (take start slots) n x (omega (arith, upper)))

    turned_far : length slots ≤ start + n → turned start (set slots (start + n - length slots) x) ≡ set (turned start slots) n x
    turned_far far =
        let e : start + n - length slots ≡ n - (length slots - start) = omega arith in
        ap (λ l. l ++ take start (set slots (start + n - length slots) x)) (drop-set-lt start slots (start + n - length slots) x (omega arith))
        ∙ ap (λ l. drop start slots ++ l) (take-set-lt start slots (start + n - length slots) x (omega arith) ∙ ap (λ k. set (take start slots) k x) e)
        ∙ sym (set-append_right (drop start slots) (take start slots) (length slots - start) n x upper (omega arith))

    turned_set : turned start (set slots (place_at (length slots) start n) x) ≡ set (turned start slots) n x
    turned_set =
        ⊎_elim
        (λ near. ap (λ k. turned start (set slots k x)) (place_near (length slots) start n near) ∙ turned_near near)
        (λ far. ap (λ k. turned start (set slots k x)) (place_far (length slots) start n far) ∙ turned_far far)
        (cases_lt (start + n) (length slots))

    pub push_values : live start (n + 1) (set slots (place_at (length slots) start n) x) ≡ live start n slots ++ x ∷ []
    push_values = ap (take (n + 1)) turned_set ∙ take_more_set (turned start slots) n x (omega (arith, length_turned))

  -- the first k values go
  module _ (k : ℕ) (fits : n ≤ length slots) (some : k ≤ n) where
    rest : drop k (live start n slots) ≡ take (n - k) (drop k (turned start slots))
    rest =
        let e : n ≡ k + (n - k) = omega arith in
        ap (λ m. drop k (take m (turned start slots))) e ∙ drop-take k (n - k) (turned start slots)

    -- what lies before the start stays behind the values
    rest_near : start + k < length slots → take (n - k) (turned (start + k) slots) ≡ take (n - k) (drop k (turned start slots))
    rest_near near =
        let shorter : length (drop (start + k) slots ++ take start (take (start + k) slots)) ≡ length slots - k =
        omega (arith, length-append (drop (start + k) slots) (take start (take (start + k) slots)), length-drop (start + k) slots, length-take-le (start + k) slots (omega arith), length-take-le start (take (start + k) slots) (omega (arith, length-take-le (start + k) slots (omega arith)))) in
        ap (λ l. take (n - k) (drop (start + k) slots ++ l)) (sym (take-append-drop start (take (start + k) slots)))
        ∙ ap (take (n - k)) (sym (append_assoc (drop (start + k) slots) (take start (take (start + k) slots)) (drop start (take (start + k) slots))))
        ∙ take-append-le (n - k) (drop (start + k) slots ++ take start (take (start + k) slots)) (drop start (take (start + k) slots)) (omega arith)
        ∙ ap (λ l. take (n - k) (drop (start + k) slots ++ l)) (take-take start (start + k) slots (omega arith))
        ∙ ap (λ l. take (n - k) (l ++ take start slots)) (sym (drop-drop k start slots))
        ∙ ap (take (n - k)) (sym (drop-append-le k (drop start slots) (take start slots) (omega (arith, upper))))

    rest_far : length slots ≤ start + k → take (n - k) (turned (start + k - length slots) slots) ≡ take (n - k) (drop k (turned start slots))
    rest_far far =
        let s : ℕ = start + k - length slots in
        let e : k ≡ length (drop start slots) + (start + k - length slots) = omega (arith, upper) in
        let f : start ≡ (start + k - length slots) + (start - (start + k - length slots)) = omega arith in
        take-append-le (n - k) (drop s slots) (take s slots) (omega (arith, length-drop (start + k - length slots) slots))
        ∙ sym (take-take (n - k) (start - s) (drop s slots) (omega arith))
        ∙ ap (take (n - k)) (sym (ap (λ m. drop s (take m slots)) f ∙ drop-take s (start - s) slots))
        ∙ ap (take (n - k)) (sym (ap (λ m. drop m (turned start slots)) e ∙ drop-append-add (drop start slots) (take start slots) s))

    pub skip_values : live (place_at (length slots) start k) (n - k) slots ≡ drop k (live start n slots)
    skip_values =
        ⊎_elim
        (λ near. ap (λ m. take (n - k) (turned m slots)) (place_near (length slots) start k near) ∙ rest_near near)
        (λ far. ap (λ m. take (n - k) (turned m slots)) (place_far (length slots) start k far) ∙ rest_far far)
        (cases_lt (start + k) (length slots))
        ∙ sym rest
