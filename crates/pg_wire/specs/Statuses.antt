-- The statuses that a service's reply may have.
use Rattle.std.specs.Prelude.{◌≡◌, ◌⊎◌, ℕ}

abbrev pub IsReplyStatus : ℕ → Type 0
IsReplyStatus status =
    (status ≡ 200) ⊎ ((status ≡ 400) ⊎ ((status ≡ 401) ⊎ ((status ≡ 403) ⊎ ((status ≡ 404) ⊎ ((status ≡ 409) ⊎ ((status ≡ 503) ⊎ (status ≡ 507)))))))
