-- The first and the last line of a listing. Cited by the functions that put them into a lent buffer, and by the text of a whole listing. Assumes nothing.
--
--   heading kiss level     the first line
--   end_line n before after the last line
use Rattle.std.specs.Prelude.{ℕ, ◌+◌, ◌*◌, Bool, cond, List, ◌++◌}
use Rattle.text.specs.Text.{ascii, decimal, max_digits}

-- "QAFT listing level L", or "KISS listing"
unfoldable pub heading : (kiss : Bool) (level : ℕ) → List ℕ
heading kiss level = cond kiss (ascii "KISS listing\n") (ascii "QAFT listing level " ++ (decimal level ++ ascii "\n"))

-- "end R before B after A": the reports, the raw octets before the first flag and after the last
unfoldable pub end_line : (reports before after : ℕ) → List ℕ
end_line reports before after =
    ascii "end " ++ (decimal reports ++ (ascii " before " ++ (decimal before ++ (ascii " after " ++ (decimal after ++ ascii "\n")))))

-- room for either line: three numbers, and 20 octets beside them
abbrev pub short_line : ℕ
short_line = 3 * max_digits + 20
