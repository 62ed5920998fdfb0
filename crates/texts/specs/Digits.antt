-- The decimal digits of a number without its sign: `decimal_to` with bound enough, digit by digit from the back, and how many there are.
use Rattle.std.specs.Prelude.{◌≡◌, refl, List, [], ◌∷◌, ◌++◌, ℕ, zero, suc, ◌+◌, ◌*◌, ◌/◌, ◌%◌, ◌≤◌, ◌<◌, ltb, ℤ, pos, negsuc, length, drop, set}
use Rattle.std.proofs.Common.{sym, ap, ap₂, ◌∙◌, append_assoc, add-one, arith, ltb-true, ltb-false, lt-ltb, le-ltb, length-append}
use Rattle.std.proofs.lemmas.List.{drop-set}
use Rattle.std.specs.Int.Signed.{mag}
use Rattle.lists.specs.Tests.{by_test}
use Rattle.paper.specs.Lines.{digit0, decimal_to, decimal}

abbrev pub digits_of : ℕ → List ℕ
digits_of n = decimal_to (suc n) n

-- any bound above the number is enough
enough : (f g n : ℕ) → n < f → n < g → decimal_to f n ≡ decimal_to g n
unfolding decimal_to
enough zero g n h k = absurd (omega arith)
enough (suc f) zero n h k = absurd (omega arith)
enough (suc f) (suc g) n h k =
    by_test (ltb n 10)
    (λ t. rw t refl)
    (λ t. rw t (ap (λ l. l ++ ((digit0 + n % 10) ∷ [])) (enough f g (n / 10) (omega (arith, ltb-false n 10 t)) (omega (arith, ltb-false n 10 t)))))

pub digits_one : (n : ℕ) → n < 10 → digits_of n ≡ (digit0 + n) ∷ []
unfolding decimal_to
digits_one n h = rw (lt-ltb n 10 h) refl

pub digits_more : (n : ℕ) → 10 ≤ n → digits_of n ≡ digits_of (n / 10) ++ ((digit0 + n % 10) ∷ [])
unfolding decimal_to
digits_more n h = rw (le-ltb n 10 h) (ap (λ l. l ++ ((digit0 + n % 10) ∷ [])) (enough n (suc (n / 10)) (n / 10) (omega arith) (omega arith)))

pub count_one : (n : ℕ) → n < 10 → length (digits_of n) ≡ 1
count_one n h = ap length (digits_one n h)

pub count_more : (n : ℕ) → 10 ≤ n → length (digits_of n) ≡ length (digits_of (n / 10)) + 1
count_more n h = ap length (digits_more n h) ∙ length-append (digits_of (n / 10)) ((digit0 + n % 10) ∷ [])

-- ---- the digits from the last one on: those before place i are still due

abbrev pub due : ℕ → ℕ → List ℕ
due zero n = []
due (suc i) n = digits_of n

some_digit : (n : ℕ) → 1 ≤ length (digits_of n)
some_digit n =
    by_test (ltb n 10)
    (λ t. omega (arith, count_one n (ltb-true n 10 t)))
    (λ t. omega (arith, count_more n (ltb-false n 10 t)))

-- at first all are due
pub due_all : (i n : ℕ) → i ≡ length (digits_of n) → due i n ≡ digits_of n
due_all zero n e = absurd (omega (arith, some_digit n))
due_all (suc i) n e = refl

-- one digit fewer, and it stands in its place
pub due_places : (i n : ℕ) → length (digits_of n) ≡ suc i → length (due i (n / 10)) ≡ i
due_places zero n e = refl
due_places (suc i) n e =
    by_test (ltb n 10)
    (λ t. absurd (omega (arith, count_one n (ltb-true n 10 t))))
    (λ t. omega (arith, count_more n (ltb-false n 10 t)))

due_last : (i n : ℕ) → length (digits_of n) ≡ suc i → digits_of n ≡ due i (n / 10) ++ ((digit0 + n % 10) ∷ [])
due_last zero n e =
    by_test (ltb n 10)
    (λ t. let l = ltb-true n 10 t in let r : n % 10 ≡ n = omega arith in digits_one n l ∙ ap (λ d. (digit0 + d) ∷ []) (sym r))
    (λ t. absurd (omega (arith, count_more n (ltb-false n 10 t), some_digit (n / 10))))
due_last (suc i) n e =
    by_test (ltb n 10)
    (λ t. absurd (omega (arith, count_one n (ltb-true n 10 t))))
    (λ t. digits_more n (ltb-false n 10 t))

pub due_next : (i n x : ℕ) (bytes : List ℕ) → i < length bytes → length (digits_of n) ≡ suc i → x ≡ digit0 + n % 10 → due i (n / 10) ++ drop i (set bytes i x) ≡ digits_of n ++ drop (suc i) bytes
due_next i n x bytes h e d =
    ap (λ l. due i (n / 10) ++ l) (drop-set bytes i x h ∙ ap₂ (λ b k. b ∷ drop k bytes) d (add-one i))
    ∙ sym (append_assoc (due i (n / 10)) ((digit0 + n % 10) ∷ []) (drop (suc i) bytes))
    ∙ ap (λ l. l ++ drop (suc i) bytes) (sym (due_last i n e))

-- ---- how many
abbrev pub pow10 : ℕ → ℕ
pow10 zero = 1
pow10 (suc k) = 10 * pow10 k

pub count_le : (k n : ℕ) → n < pow10 (suc k) → length (digits_of n) ≤ suc k
count_le zero n h = omega (arith, count_one n (omega arith))
count_le (suc k) n h =
    by_test (ltb n 10)
    (λ t. omega (arith, count_one n (ltb-true n 10 t)))
    (λ t. omega (arith, count_more n (ltb-false n 10 t), count_le k (n / 10) (omega arith)))

-- a signed number of less than so many digits, with its minus
pub decimal_le : (k : ℕ) (z : ℤ) → mag z + 1 < pow10 (suc k) → length (decimal z) ≤ k + 2
decimal_le k (pos n) h = omega (arith, count_le k n (omega arith))
decimal_le k (negsuc n) h = omega (arith, count_le k (suc n) (omega arith))
