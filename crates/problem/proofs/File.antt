-- Laws of the file: how long its words and its bytes are, and the three parts in which each is written.
use Prim.Native.Nat.{ℕ, ◌+◌, ◌*◌, ◌-◌}
use mathlib.Core.Path.{◌≡◌, refl, ap, ◌∙◌}
use mathlib.Core.List.{List, ◌++◌}
use borrow.Rule.Slice.PartMut.{put_mid}
use lib.ListN.{length, take, drop, length-append}
use Rattle.basics.specs.Runs.{run, piece, Turned}
use Rattle.basics.proofs.Runs.{length_run, tail-part, put-tail}
use Rattle.rules.specs.Problem.{header_words, column_at, words_for, columns, messages}
use Rattle.problem.specs.declared.layout.Layout.{Layout}
use Rattle.problem.specs.Layout.{column_size, column_of, column_bytes, message_size, message_of, message_bytes}
use Rattle.problem.specs.File.{head_bytes, column_byte, bytes_for, header_of, columns_in, messages_in, words_in, words_of, header_bytes, file_of, byte_count}
use Rattle.problem.proofs.Layouts.{column-length, message-length}

-- a head of n, K pieces of a and M of b
length_whole : (H : List ℕ) (n a b K M : ℕ) (g h : ℕ → List ℕ) → length H ≡ n → ((i : ℕ) → length (g i) ≡ a) → ((i : ℕ) → length (h i) ≡ b)
    → length (H ++ run K g ++ run M h) ≡ n + a * K + b * M
length_whole H n a b K M g h e k l =
    length-append (H ++ run K g) (run M h)
    ∙ ap (λ (x : ℕ). x + length (run M h)) (length-append H (run K g))
    ∙ rw (e, length_run g a k K, length_run h b l M)

pub length-words : (f : List ℕ) → length (words_of f) ≡ words_for (columns_in f) (messages_in f)
unfolding words_in
length-words f = length_whole (header_of f) 7 3 7 (columns_in f) (messages_in f) _ _ refl (λ i. refl) (λ i. refl)

pub length-file : (L : Layout) (p : List ℕ) → length (file_of L p) ≡ byte_count L p
unfolding file_of
length-file L p =
    length_whole (header_bytes L p) 16 (column_size L) (message_size L) (columns p) (messages p) _ _ refl
    (λ c. column-length L (piece 3 c (drop header_words p))) (λ j. message-length L (piece 7 j (drop (column_at (columns p)) p)))

-- ---- three writes into w, one behind the other and each by way of a part: hs are n, cs then a, and from t on ms then b, each in front of what its part held
abbrev pub part1 : ℕ → List ℕ → List ℕ → List ℕ
part1 n w hs = hs ++ drop n w

abbrev pub part2 : ℕ → List ℕ → List ℕ → List ℕ → List ℕ
part2 n w hs cs = put_mid n (length (part1 n w hs) - n) (part1 n w hs) cs

-- what a list holds from n on, lent as a part
abbrev pub rest : ℕ → List ℕ → List ℕ
rest n l = take (length l - n) (drop n l)

module _ (H C M w hs cs ms : List ℕ) (n a b t : ℕ) (at : t ≡ n + a) where
  pub three-parts : length H ≡ n → length C ≡ a → hs ≡ H → cs ≡ C ++ drop a (rest n (part1 n w hs)) → ms ≡ M ++ drop b (rest t (part2 n w hs cs))
      → put_mid t (length (part2 n w hs cs) - t) (part2 n w hs cs) ms ≡ H ++ C ++ M ++ drop (n + a + b) w
  three-parts l k h1 h2 h3 =
      let e1 : part1 n w hs ≡ H ++ drop n w = ap (λ (l : List ℕ). l ++ drop n w) h1 in
      let e2 : part2 n w hs cs ≡ H ++ C ++ drop (n + a) w = put-tail H C w (part1 n w hs) cs n a e1 l h2 in
      rw at (put-tail (H ++ C) M w (part2 n w hs cs) ms (n + a) b e2 (length-append H C ∙ rw (l, k)) (rw at at h3))

-- the words of a file
module _ (L : Layout) (f w hs cs ms : List ℕ) (k m s t : ℕ) (p : k ≡ columns_in f) (q : m ≡ messages_in f) (from : s ≡ column_byte L k) (at : t ≡ column_at k) where
  pub words-parts : hs ≡ header_of f
      → Turned (column_of L) (column_size L) 3 (rest head_bytes f) (rest header_words (part1 header_words w hs)) k cs
      → Turned (message_of L) (message_size L) 7 (rest s f) (rest t (part2 header_words w hs cs)) m ms
      → put_mid t (length (part2 header_words w hs cs) - t) (part2 header_words w hs cs) ms ≡ words_in L f ++ drop (words_for k m) w
  unfolding words_in
  words-parts h1 h2 h3 =
      let g : ℕ → List ℕ = λ j. column_of L (piece (column_size L) j (rest head_bytes f)) in
      let h : ℕ → List ℕ = λ j. message_of L (piece (message_size L) j (rest s f)) in
      rw (
        three-parts (header_of f) (run k g) (run m h) w hs cs ms header_words (3 * k) (7 * m) t at refl (length_run g 3 (λ i. refl) k) h1 h2.is h3.is,
        tail-part head_bytes f,
        tail-part s f,
        from,
        p,
        q,
      )

-- the bytes of a problem
module _ (L : Layout) (p w hs cs ms : List ℕ) (k m s t : ℕ) (e : k ≡ columns p) (q : m ≡ messages p) (from : s ≡ column_at k) (at : t ≡ column_byte L k) where
  pub bytes-parts : hs ≡ header_bytes L p
      → Turned (column_bytes L) 3 (column_size L) (rest header_words p) (rest head_bytes (part1 head_bytes w hs)) k cs
      → Turned (message_bytes L) 7 (message_size L) (rest s p) (rest t (part2 head_bytes w hs cs)) m ms
      → put_mid t (length (part2 head_bytes w hs cs) - t) (part2 head_bytes w hs cs) ms ≡ file_of L p ++ drop (bytes_for L k m) w
  unfolding file_of
  bytes-parts h1 h2 h3 =
      let g : ℕ → List ℕ = λ j. column_bytes L (piece 3 j (rest header_words p)) in
      let h : ℕ → List ℕ = λ j. message_bytes L (piece 7 j (rest s p)) in
      rw (
        three-parts (header_bytes L p) (run k g) (run m h) w hs cs ms head_bytes (column_size L * k) (message_size L * m) t at
            refl (length_run g (column_size L) (λ j. column-length L (piece 3 j (rest header_words p))) k) h1 h2.is h3.is,
        tail-part header_words p,
        tail-part s p,
        from,
        e,
        q,
      )
