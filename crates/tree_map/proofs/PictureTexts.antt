-- Texts that go on.
use Rattle.std.proofs.Common.{◌≡◌, ℕ, List, ◌++◌, ap, ◌∙◌, append_assoc}

-- what is appended to what was appended
pub and_then : (first text next before after : List ℕ) → text ≡ first ++ before →
    next ≡ text ++ after → next ≡ first ++ (before ++ after)
and_then first text next before after e f = rw (f, e) (append_assoc first before after)

-- five lists, one after another
pub five_appended : (text a b c d e t1 t2 t3 t4 t5 : List ℕ) → t1 ≡ text ++ a → t2 ≡ t1 ++ b →
    t3 ≡ t2 ++ c → t4 ≡ t3 ++ d → t5 ≡ t4 ++ e → t5 ≡ text ++ ((((a ++ b) ++ c) ++ d) ++ e)
five_appended text a b c d e t1 t2 t3 t4 t5 e1 e2 e3 e4 e5 =
    e5
    ∙ ap (λ t. t ++ e)
    (e4 ∙ ap (λ t. t ++ d) (e3 ∙ ap (λ t. t ++ c) (e2 ∙ ap (λ t. t ++ b) e1)))
    ∙ simp append_assoc

-- and one more
pub six_appended : (text a b c d e f t1 t2 t3 t4 t5 t6 : List ℕ) → t1 ≡ text ++ a →
    t2 ≡ t1 ++ b → t3 ≡ t2 ++ c → t4 ≡ t3 ++ d → t5 ≡ t4 ++ e → t6 ≡ t5 ++ f →
    t6 ≡ text ++ (((((a ++ b) ++ c) ++ d) ++ e) ++ f)
six_appended text a b c d e f t1 t2 t3 t4 t5 t6 e1 e2 e3 e4 e5 e6 =
    e6
    ∙ ap (λ t. t ++ f) (five_appended text a b c d e t1 t2 t3 t4 t5 e1 e2 e3 e4 e5)
    ∙ append_assoc text ((((a ++ b) ++ c) ++ d) ++ e) f
