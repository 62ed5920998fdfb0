-- A part of a list, `win`, and a list with a part replaced, `put`: what a lent part of a slice is, and what a function that writes leaves behind.
-- Use: contracts of writing functions say `s.new ≡ put a NEW s.old`; side conditions are `omega (arith, lengths..)`; `lent` turns what the borrow checker
-- gives for `&mut s[a..e]` into `put`; a loop's invariant is "what is still due, put at its place, is the whole" (`put_step`, `put_nil`). Assumes nothing.
use Rattle.std.specs.Prelude.{◌≡◌, get_or}
use Rattle.std.proofs.Math.Path.{sym, ap}
use Rattle.std.proofs.Common.{◌∙◌, add-one, take-append-drop, drop_of_length-le, take_at, drop_at, drop-cons, take-suc, drop-drop, take-suc-set, drop-set-lt}
use mathlib.Core.List.{List, [], ◌∷◌, ◌++◌, append_assoc, append-nil}
use Prim.Native.Nat.{ℕ, suc, ◌+◌, ◌-◌, ◌≤◌, ◌<◌}
use Rattle.std.proofs.Math.Nat.{add-zero}
use native.Mathlib.Omega.{arith}
use Rattle.std.proofs.Math.ListN.{length, take, drop, set, length-append, length-take, length-drop, get_or-append}
use Rattle.std.proofs.Math.Seq.{length-take-le, take_all, take-append_seam, drop-append_seam, take-append-le, drop-append-add, set_at, set_split, take-add, get_or-take}
use Rattle.std.proofs.lemmas.List.{drop-append-le}
use Rattle.std.specs.List.{copy_within}
use borrow.Rule.Slice.PartMut.{put_mid}

-- the n elements from place a on
unfoldable pub win {ℓ} : {A : Type ℓ} → ℕ → ℕ → List A → List A
win a n xs = take n (drop a xs)

-- xs with v in the place of as many elements from place a on
unfoldable pub put {ℓ} : {A : Type ℓ} → ℕ → List A → List A → List A
put a v xs = take a xs ++ (v ++ drop (a + length v) xs)

module _ {ℓ} {A : Type ℓ} where
  pub length_win : (a n : ℕ) (xs : List A) → a + n ≤ length xs → length (win a n xs) ≡ n
  unfolding win
  length_win a n xs h = simp (length-take, length-drop) (omega arith)

  pub length_put : (t : ℕ) (v xs : List A) → t + length v ≤ length xs → length (put t v xs) ≡ length xs
  unfolding put
  length_put t v xs h = simp (length-append, length-take, length-drop) (omega arith)

  -- a part of the front of a list
  pub win_front : (a n : ℕ) (p q : List A) → a + n ≤ length p → win a n (p ++ q) ≡ win a n p
  unfolding win
  win_front a n p q h =
      let h₁ : a ≤ length p = omega arith in
      let h₂ : n ≤ length (drop a p) = omega (arith, length-drop a p) in
      ap (take n) (drop-append-le a p q h₁) ∙ take-append-le n (drop a p) q h₂

  -- a part of the back of a list
  pub win_back : (a n : ℕ) (p q : List A) → win (length p + a) n (p ++ q) ≡ win a n q
  unfolding win
  win_back a n p q = ap (take n) (drop-append-add p q a)

  pub win_put_same : (t : ℕ) (v xs : List A) → t ≤ length xs → win t (length v) (put t v xs) ≡ v
  unfolding win put
  win_put_same t v xs h = ap (take (length v)) (drop_at (take t xs) _ t (length-take-le t xs h)) ∙ take-append_seam v _

  pub win_put_left : (a n t : ℕ) (v xs : List A) → a + n ≤ t → t ≤ length xs → win a n (put t v xs) ≡ win a n xs
  unfolding put
  win_put_left a n t v xs h l =
      let e : length (take t xs) ≡ t = length-take-le t xs l in
      let f : a + n ≤ length (take t xs) = omega arith in
      win_front a n (take t xs) (v ++ drop (t + length v) xs) f
      ∙ sym (win_front a n (take t xs) (drop t xs) f)
      ∙ ap (win a n) (take-append-drop t xs)

  win_drop : (m a n : ℕ) (xs : List A) → win a n (drop m xs) ≡ win (m + a) n xs
  unfolding win
  win_drop m a n xs = ap (take n) (drop-drop a m xs)

  pub win_put_right : (a n t : ℕ) (v xs : List A) → t + length v ≤ a → t + length v ≤ length xs → win a n (put t v xs) ≡ win a n xs
  unfolding put
  win_put_right a n t v xs h l =
      let m : length (take t xs ++ v) ≡ t + length v = simp (length-append, length-take) (omega arith) in
      let e : a ≡ length (take t xs ++ v) + (a - (t + length v)) = omega arith in
      let e' : (t + length v) + (a - (t + length v)) ≡ a = omega arith in
      ap (win a n) (sym (append_assoc (take t xs) v (drop (t + length v) xs)))
      ∙ ap (λ k. win k n ((take t xs ++ v) ++ drop (t + length v) xs)) e
      ∙ win_back (a - (t + length v)) n (take t xs ++ v) (drop (t + length v) xs)
      ∙ win_drop (t + length v) (a - (t + length v)) n xs
      ∙ ap (λ k. win k n xs) e'

  win_whole : (a n b m : ℕ) (xs : List A) → win a n (win b m xs ++ drop m (drop b xs)) ≡ win a n (drop b xs)
  unfolding win
  win_whole a n b m xs = ap (win a n) (take-append-drop m (drop b xs))

  pub win_win : (a n b m : ℕ) (xs : List A) → a + n ≤ m → b + m ≤ length xs → win a n (win b m xs) ≡ win (b + a) n xs
  win_win a n b m xs h l =
      let f : a + n ≤ length (win b m xs) = omega (arith, length_win b m xs l) in
      sym (win_front a n (win b m xs) (drop m (drop b xs)) f) ∙ win_whole a n b m xs ∙ win_drop b a n xs

  -- two parts side by side
  pub win_add : (a n m : ℕ) (xs : List A) → win a (n + m) xs ≡ win a n xs ++ win (a + n) m xs
  unfolding win
  win_add a n m xs = take-add n m (drop a xs) ∙ ap (λ l. take n (drop a xs) ++ take m l) (drop-drop n a xs)

  pub win_all : (n : ℕ) (xs : List A) → length xs ≡ n → win 0 n xs ≡ xs
  unfolding win
  win_all n xs h = take_all n xs (omega arith)

  pub put_nil : (t : ℕ) (xs : List A) → put t [] xs ≡ xs
  unfolding put
  put_nil t xs = rw add-zero (take-append-drop t xs)

  -- one word more in front of a part that is replaced
  pub put_cons : (t : ℕ) (x d : A) (v xs : List A) → t < length xs → set (put (suc t) v xs) t x ≡ put t (x ∷ v) xs
  unfolding put
  put_cons t x d v xs h =
      let e : suc t + length v ≡ t + suc (length v) = omega arith in
      let l : length (take t xs) ≡ t = length-take-le t xs (omega arith) in
      ap (λ p. set (p ++ (v ++ drop (suc t + length v) xs)) t x) (take-suc xs t d h)
      ∙ ap (λ p. set p t x) (append_assoc (take t xs) (get_or xs t d ∷ []) (v ++ drop (suc t + length v) xs))
      ∙ set_at (take t xs) (get_or xs t d) (v ++ drop (suc t + length v) xs) x t l
      ∙ ap (λ k. take t xs ++ x ∷ (v ++ drop k xs)) e

  pub put_one : (t : ℕ) (x : A) (xs : List A) → t < length xs → set xs t x ≡ put t (x ∷ []) xs
  unfolding put
  put_one t x xs h = set_split xs t x h ∙ ap (λ k. take t xs ++ x ∷ drop k xs) (sym (add-one t))

  pub win_cons : (f m : ℕ) (d : A) (xs : List A) → f < length xs → win f (suc m) xs ≡ get_or xs f d ∷ win (suc f) m xs
  unfolding win
  win_cons f m d xs h = ap (take (suc m)) (drop-cons xs f d h)

  pub get_d_put_left : (t k : ℕ) (d : A) (v xs : List A) → k < t → t ≤ length xs → get_or (put t v xs) k d ≡ get_or xs k d
  unfolding put
  get_d_put_left t k d v xs h l =
      let e : length (take t xs) ≡ t = length-take-le t xs l in
      get_or-append (take t xs) (v ++ drop (t + length v) xs) d k (omega arith) ∙ get_or-take t xs k d h

  pub win_put_at : (t n : ℕ) (v xs : List A) → length v ≡ n → t ≤ length xs → win t n (put t v xs) ≡ v
  win_put_at t n v xs e h = rw (← e) (win_put_same t v xs h)

  -- a part that is copied up
  pub length_copy : (f t n : ℕ) (xs : List A) → f ≤ t → t + n ≤ length xs → length (put t (win f n xs) xs) ≡ length xs
  length_copy f t n xs h l = length_put t (win f n xs) xs (omega (arith, length_win f n xs (omega arith)))

  pub take_win : (a n m : ℕ) (xs : List A) → a + (n + m) ≤ length xs → take n (win a (n + m) xs) ≡ win a n xs
  take_win a n m xs h = ap (take n) (win_add a n m xs) ∙ take_at (win a n xs) _ n (length_win a n xs (omega arith))

  pub drop_win : (a n m : ℕ) (xs : List A) → a + (n + m) ≤ length xs → drop n (win a (n + m) xs) ≡ win (a + n) m xs
  drop_win a n m xs h = ap (drop n) (win_add a n m xs) ∙ drop_at (win a n xs) _ n (length_win a n xs (omega arith))

-- a part copied to another place of the same list, which std's `copy_within` leaves
pub copied : {X : Type 0} (from to n : ℕ) (xs : List X) → from + n ≤ length xs → copy_within xs from (from + n) to ≡ put to (win from n xs) xs
unfolding put win
copied from to n xs h =
    let k : from + n - from ≡ n = omega arith in
    let l : length (take n (drop from xs)) ≡ n = simp (length-take, length-drop) (omega arith) in
    rw (k, l) (append_assoc (take to xs) (take n (drop from xs)) (drop (to + n) xs))

-- a part that was lent, `&mut s[a..e]` with k = e - a, and has come back
pub lent : {X : Type 0} (a k : ℕ) (xs ys : List X) → length ys ≡ k → put_mid a k xs ys ≡ put a ys xs
unfolding put
lent a k xs ys e = rw e (ap (λ l. take a xs ++ (ys ++ l)) (drop-drop k a xs))

module _ {ℓ} {A : Type ℓ} where
  -- the first word of a part is written, and the others are still due
  pub put_step : (o : ℕ) (x : A) (v s : List A) → o < length s → put o (x ∷ v) s ≡ put (suc o) v (set s o x)
  unfolding put
  put_step o x v s h =
      let e : o + suc (length v) ≡ suc o + length v = omega arith in
      sym
      (ap (λ l. l ++ (v ++ drop (suc o + length v) (set s o x))) (take-suc-set s o x h)
      ∙ ap (λ l. (take o s ++ (x ∷ [])) ++ (v ++ l)) (drop-set-lt (suc o + length v) s o x (omega arith))
      ∙ append_assoc (take o s) (x ∷ []) (v ++ drop (suc o + length v) s)
      ∙ ap (λ k. take o s ++ (x ∷ (v ++ drop k s))) (sym e))

  -- a write before a part
  pub win_set : (a n o : ℕ) (x : A) (s : List A) → o < a → win a n (set s o x) ≡ win a n s
  unfolding win
  win_set a n o x s h = ap (take n) (drop-set-lt a s o x h)

  -- a write after a part
  pub win_set_after : (a n o : ℕ) (x : A) (s : List A) → a + n ≤ o → o < length s → win a n (set s o x) ≡ win a n s
  win_set_after a n o x s h l = ap (win a n) (put_one o x s l) ∙ win_put_left a n o (x ∷ []) s h (omega arith)

module _ {ℓ} {A : Type ℓ} where
  pub put_app : (p m r v : List A) → length m ≡ length v → put (length p) v (p ++ (m ++ r)) ≡ p ++ (v ++ r)
  unfolding put
  put_app p m r v e =
      let f : length p + length v ≡ length (p ++ m) = simp length-append (omega arith) in
      ap (λ l. l ++ (v ++ drop (length p + length v) (p ++ (m ++ r)))) (take-append_seam p (m ++ r))
      ∙ ap (λ k. p ++ (v ++ drop k (p ++ (m ++ r)))) f
      ∙ ap (λ l. p ++ (v ++ drop (length (p ++ m)) l)) (sym (append_assoc p m r))
      ∙ ap (λ l. p ++ (v ++ l)) (drop-append_seam (p ++ m) r)

  pub onward : (i n : ℕ) (xs : List A) → drop i xs ≡ win i n xs ++ drop (i + n) xs
  unfolding win
  onward i n xs = sym (take-append-drop n (drop i xs)) ∙ ap (λ l. take n (drop i xs) ++ l) (drop-drop n i xs)

  -- a list by a part of it
  pub in_three : (a n : ℕ) (xs : List A) → xs ≡ take a xs ++ (win a n xs ++ drop (a + n) xs)
  in_three a n xs = sym (take-append-drop a xs) ∙ ap (λ l. take a xs ++ l) (onward a n xs)

  -- the list with a part replaced, by its parts
  put_wins : (a : ℕ) (v xs : List A) (n : ℕ) → length xs ≤ n → put a v xs ≡ win 0 a xs ++ (v ++ win (a + length v) n xs)
  unfolding put win
  put_wins a v xs n h =
      ap (λ l. take a xs ++ (v ++ l)) (sym (take_all n (drop (a + length v) xs) (omega (arith, length-drop (a + length v) xs))))

  -- a part that lies within another that is replaced after it
  pub put_over : (a b : ℕ) (v w xs : List A) → a ≤ b → b + length w ≤ a + length v → a + length v ≤ length xs → put a v (put b w xs) ≡ put a v xs
  put_over a b v w xs h k l = fronts ∙ backs
    where
      front : win 0 a (put b w xs) ≡ win 0 a xs
      front = win_put_left 0 a b w xs (omega arith) (omega arith)

      back : win (a + length v) (length xs) (put b w xs) ≡ win (a + length v) (length xs) xs
      back = win_put_right (a + length v) (length xs) b w xs k (omega arith)

      fronts : put a v (put b w xs) ≡ win 0 a (put b w xs) ++ (v ++ win (a + length v) (length xs) (put b w xs))
      fronts = put_wins a v (put b w xs) (length xs) (omega (arith, length_put b w xs (omega arith)))

      backs : win 0 a (put b w xs) ++ (v ++ win (a + length v) (length xs) (put b w xs)) ≡ put a v xs
      backs = rw (front, back) (sym (put_wins a v xs (length xs) (omega arith)))

  -- two parts side by side, replaced in either order
  pub put_swap : (a b : ℕ) (v w xs : List A) → a + length v ≤ b → b + length w ≤ length xs → put b w (put a v xs) ≡ put a v (put b w xs)
  put_swap a b v w xs h k =
      let lp : length p ≡ a = length-take-le a xs (omega arith) in
      let lm : length m ≡ length v = length_win a (length v) xs (omega arith) in
      let lc : length c ≡ b - (a + length v) = length_win (a + length v) (b - (a + length v)) xs (omega arith) in
      let lx : length x ≡ length w = length_win b (length w) xs (omega arith) in
      let l₁ : length (p ++ (v ++ c)) ≡ b = simp length-append (omega arith) in
      let l₂ : length (p ++ (m ++ c)) ≡ b = simp length-append (omega arith) in
      let g₁ : p ++ (v ++ (c ++ (x ++ r))) ≡ (p ++ (v ++ c)) ++ (x ++ r) = simp append_assoc in
      let g₂ : p ++ (m ++ (c ++ (x ++ r))) ≡ (p ++ (m ++ c)) ++ (x ++ r) = simp append_assoc in
      let g₃ : (p ++ (v ++ c)) ++ (w ++ r) ≡ p ++ (v ++ (c ++ (w ++ r))) = simp append_assoc in
      let g₄ : (p ++ (m ++ c)) ++ (w ++ r) ≡ p ++ (m ++ (c ++ (w ++ r))) = simp append_assoc in
      let e₁ : put b w (put a v xs) ≡ p ++ (v ++ (c ++ (w ++ r))) =
      ap (λ l. put b w (put a v l)) whole
      ∙ ap (λ i. put b w (put i v (p ++ (m ++ (c ++ (x ++ r)))))) (sym lp)
      ∙ ap (put b w) (put_app p m (c ++ (x ++ r)) v lm ∙ g₁)
      ∙ ap (λ i. put i w ((p ++ (v ++ c)) ++ (x ++ r))) (sym l₁)
      ∙ put_app (p ++ (v ++ c)) x r w lx ∙ g₃ in
      let e₂ : put a v (put b w xs) ≡ p ++ (v ++ (c ++ (w ++ r))) =
      ap (λ l. put a v (put b w l)) (whole ∙ g₂)
      ∙ ap (λ i. put a v (put i w ((p ++ (m ++ c)) ++ (x ++ r)))) (sym l₂)
      ∙ ap (put a v) (put_app (p ++ (m ++ c)) x r w lx ∙ g₄)
      ∙ ap (λ i. put i v (p ++ (m ++ (c ++ (w ++ r))))) (sym lp)
      ∙ put_app p m (c ++ (w ++ r)) v lm in
      e₁ ∙ sym e₂
    where
      p : List A
      p = take a xs

      m : List A
      m = win a (length v) xs

      c : List A
      c = win (a + length v) (b - (a + length v)) xs

      x : List A
      x = win b (length w) xs

      r : List A
      r = drop (b + length w) xs

      after : drop (a + length v) xs ≡ c ++ (x ++ r)
      after =
          let e : (a + length v) + (b - (a + length v)) ≡ b = omega arith in
          onward (a + length v) (b - (a + length v)) xs
          ∙ ap (λ i. c ++ drop i xs) e
          ∙ ap (λ l. c ++ l) (onward b (length w) xs)

      whole : xs ≡ p ++ (m ++ (c ++ (x ++ r)))
      whole = in_three a (length v) xs ∙ ap (λ l. p ++ (m ++ l)) after

  -- a write after a part that is replaced
  pub put_set_after : (t k : ℕ) (x : A) (v s : List A) → t + length v ≤ k → k < length s → set (put t v s) k x ≡ put t v (set s k x)
  put_set_after t k x v s h l =
      put_one k x (put t v s) (omega (arith, length_put t v s (omega arith)))
      ∙ put_swap t k v (x ∷ []) s h (omega arith)
      ∙ ap (put t v) (sym (put_one k x s l))

  -- all of a list replaced
  pub put_all : (v s : List A) → length v ≡ length s → put 0 v s ≡ v
  unfolding put
  put_all v s h = ap (λ l. v ++ l) (drop_of_length-le s {i = 0 + length v} (omega arith)) ∙ append-nil v

  -- two parts side by side, replaced one after the other
  pub put_join : (a : ℕ) (v w xs : List A) → a + (length v + length w) ≤ length xs → put (a + length v) w (put a v xs) ≡ put a (v ++ w) xs
  put_join a v w xs h =
      let p = take a xs in
      let m = win a (length v) xs in
      let x = win (a + length v) (length w) xs in
      let r = drop (a + length v + length w) xs in
      let lp : length p ≡ a = length-take-le a xs (omega arith) in
      let lm : length m ≡ length v = length_win a (length v) xs (omega arith) in
      let lx : length x ≡ length w = length_win (a + length v) (length w) xs (omega arith) in
      let whole : xs ≡ p ++ (m ++ (x ++ r)) = in_three a (length v) xs ∙ ap (λ l. p ++ (m ++ l)) (onward (a + length v) (length w) xs) in
      let l₁ : length (p ++ v) ≡ a + length v = simp length-append (omega arith) in
      let l₂ : length (m ++ x) ≡ length (v ++ w) = simp length-append (omega arith) in
      let g₁ : p ++ (v ++ (x ++ r)) ≡ (p ++ v) ++ (x ++ r) = simp append_assoc in
      let g₂ : (p ++ v) ++ (w ++ r) ≡ p ++ ((v ++ w) ++ r) = simp append_assoc in
      let g₃ : p ++ (m ++ (x ++ r)) ≡ p ++ ((m ++ x) ++ r) = simp append_assoc in
      ap (λ l. put (a + length v) w (put a v l)) whole
      ∙ ap (λ i. put (a + length v) w (put i v (p ++ (m ++ (x ++ r))))) (sym lp)
      ∙ ap (put (a + length v) w) (put_app p m (x ++ r) v lm ∙ g₁)
      ∙ ap (λ i. put i w ((p ++ v) ++ (x ++ r))) (sym l₁)
      ∙ put_app (p ++ v) x r w lx ∙ g₂
      ∙ sym
      (ap (put a (v ++ w)) (whole ∙ g₃)
      ∙ ap (λ i. put i (v ++ w) (p ++ ((m ++ x) ++ r))) (sym lp)
      ∙ put_app p (m ++ x) r (v ++ w) l₂)
