-- The checks of a sheet pass exactly if its bytes keep the rules.
use Rattle.std.proofs.Common.{◌≡◌, ◌↔◌, ℕ, ◌*◌, ◌%◌, ◌<◌, true, All, subst, eqb, ltb, List, length, get_or, is_ok, IsOk, Ok, Err, Result, refl, sym, ap, ◌∙◌, arith}
use Rattle.std.specs.List.{list_all}
use Rattle.std.proofs.lemmas.Bool.{not-false, not_from_true, eqb-true, eq-eqb, ltb-false, le-ltb, ltb-true, lt-ltb, or_parts, or_from}
use Rattle.std.proofs.lemmas.List.FromFn.{get_or-map-range_with_len, length-map-range_with_len}
use Rattle.std.proofs.lemmas.List.Sums.{AllPass-from_list_all, list_all-from_AllPass}
use Rattle.refusals.specs.declared.Refusal.{Refusal}
use Rattle.refusals.specs.Checks.{outcome_of, unless}
use Rattle.refusals.proofs.Checks.{Pass, unless_pass, pass_from_ok}
use Rattle.sheets.specs.Layout.{GoodBody, GoodSheet, rows_in, modules_in, body_in, word_at, words_at}
use Rattle.sheets.specs.Sheets.{body_checks, sheet_checks}

-- the test that each word's number is below a bound, and the fact that it stands for
module _ (f : ℕ → ℕ) (bound : ℕ) where
  pub all_below : (words : List ℕ) → list_all (λ w. ltb (f w) bound) words ≡ true → All (λ w. f w < bound) words
  all_below words e k d h = ltb-true (f (get_or words k d)) bound (AllPass-from_list_all (λ w. ltb (f w) bound) words e k d h)

  module _ (rows : ℕ) (body : List ℕ) where
    at_place : (i d : ℕ) → i < rows → get_or (words_at rows body) i d ≡ word_at body i
    at_place i d h = get_or-map-range_with_len (word_at body) 0 rows i i d h (omega arith)

    long : length (words_at rows body) ≡ rows
    long = length-map-range_with_len (word_at body) 0 rows

    each_below : list_all (λ w. ltb (f w) bound) (words_at rows body) ≡ true → (i : ℕ) → i < rows → f (word_at body i) < bound
    each_below e i h = subst (λ w. f w < bound) (at_place i 0 h) (all_below (words_at rows body) e i 0 (omega (arith, long)))

    all_from_each : ((i : ℕ) → i < rows → f (word_at body i) < bound) → list_all (λ w. ltb (f w) bound) (words_at rows body) ≡ true
    all_from_each each =
        list_all-from_AllPass (λ w. ltb (f w) bound) (words_at rows body)
        (λ i d h. let within : i < rows = omega (arith, long) in ap (λ w. ltb (f w) bound) (at_place i d within) ∙ lt-ltb (f (word_at body i)) bound (each i within))

module _ (rows modules : ℕ) (body : List ℕ) where
  good_from_pass : Pass (body_checks rows modules body) → GoodBody rows modules body
  good_from_pass h =
      let sizes = or_parts (ltb 2048 rows) (ltb 2048 modules) h.1.0 in
      record {
        sized = eqb-true (length body) (12 * rows) (not-false _ h.0);
        rows_fit = ltb-false 2048 rows sizes.0;
        modules_fit = ltb-false 2048 modules sizes.1;
        words_known = each_below (λ w. w) 262144 rows body (not-false _ h.1.1.0);
        modules_known = each_below (λ w. w % 65536) modules rows body (not-false _ h.1.1.1.0);
      }

  pass_from_good : GoodBody rows modules body → Pass (body_checks rows modules body)
  pass_from_good g = (
    not_from_true (eqb (length body) (12 * rows)) (eq-eqb (length body) (12 * rows) g.sized),
    (
      or_from (ltb 2048 rows) (ltb 2048 modules) (le-ltb 2048 rows g.rows_fit) (le-ltb 2048 modules g.modules_fit),
      (
        not_from_true _ (all_from_each (λ w. w) 262144 rows body g.words_known),
        (not_from_true _ (all_from_each (λ w. w % 65536) modules rows body g.modules_known), tt),
      ),
    ),
  )

is_ok-outcome_of : {T : Type 0} (r : Result T Refusal) → is_ok (outcome_of r) ≡ is_ok r
is_ok-outcome_of (Ok x) = refl
is_ok-outcome_of (Err e) = refl

pub good_sheet : {T : Type 0} (bytes : List ℕ) (result : Result T Refusal) → outcome_of result ≡ unless (sheet_checks bytes) tt → IsOk result ↔ GoodSheet bytes
good_sheet bytes result outcome =
    let same : is_ok result ≡ is_ok (unless (sheet_checks bytes) tt) = sym (is_ok-outcome_of result) ∙ ap is_ok outcome in (
      λ ok.
          let pass = pass_from_ok (sheet_checks bytes) tt (sym same ∙ ok) in
          record { header = ltb-false (length bytes) 8 pass.0; body = good_from_pass (rows_in bytes) (modules_in bytes) (body_in bytes) pass.1 },
      λ good.
          same
          ∙ ap is_ok (unless_pass (sheet_checks bytes) tt (le-ltb (length bytes) 8 good.header, pass_from_good (rows_in bytes) (modules_in bytes) (body_in bytes) good.body)),
    )
